use Rattle.histories.proofs.Words.{◌≡◌, ◌++◌, length, lines, added_lines}
use Rattle.histories.proofs.changes.put_added.Given as goal

abbrev pub invariant-loop-rest : goal.invariant-loop-rest
invariant-loop-rest l =
    l.out.items ++ added_lines (lines l.rest) ≡ l.fn.out.items ++ added_lines (lines l.change)

abbrev pub decreases-loop-rest : goal.decreases-loop-rest
decreases-loop-rest l = length l.rest
