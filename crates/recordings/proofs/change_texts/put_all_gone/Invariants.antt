use Rattle.recordings.proofs.Words.{◌≡◌, ◌++◌, length, gone_lines, texts}
use Rattle.recordings.proofs.change_texts.put_all_gone.Given as goal

abbrev pub invariant-loop-rest : goal.invariant-loop-rest
invariant-loop-rest l = l.out.items ++ gone_lines (texts l.rest) l.now
    ≡ l.fn.out.items ++ gone_lines (texts l.names) l.now

abbrev pub decreases-loop-rest : goal.decreases-loop-rest
decreases-loop-rest l = length l.rest
