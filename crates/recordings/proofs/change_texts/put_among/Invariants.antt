use Rattle.recordings.proofs.Words.{◌≡◌, ◌++◌, length, texts, texts_among}
use Rattle.recordings.proofs.change_texts.put_among.Given as goal

abbrev pub invariant-loop-rest : goal.invariant-loop-rest
invariant-loop-rest l = l.out.items ++ texts_among (texts l.names) l.rest
    ≡ l.fn.out.items ++ texts_among (texts l.names) l.now

abbrev pub decreases-loop-rest : goal.decreases-loop-rest
decreases-loop-rest l = length l.rest
