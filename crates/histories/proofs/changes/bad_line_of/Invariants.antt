use Rattle.histories.proofs.Words.{◌≡◌, ◌+◌, ◌≤◌, length, lines}
use Rattle.histories.specs.Changes.{bad_line_from}
use Rattle.histories.proofs.changes.bad_line_of.Given as goal

-- what is said of the lines that are left is said of all
abbrev pub invariant-loop-rest : goal.invariant-loop-rest
invariant-loop-rest l = record {
  said : bad_line_from l.number (lines l.rest) ≡ bad_line_from 1 (lines l.change);
  counted : l.number + length l.rest ≤ 1 + length l.change;
}

abbrev pub decreases-loop-rest : goal.decreases-loop-rest
decreases-loop-rest l = length l.rest
