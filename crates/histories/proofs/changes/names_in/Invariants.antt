use Rattle.histories.proofs.Words.{◌≡◌, [], length, lines}
use Rattle.histories.proofs.NameLemmas.{with_names}
use Rattle.histories.proofs.changes.names_in.Given as goal

-- the names so far, and those of the rest
abbrev pub invariant-loop-rest : goal.invariant-loop-rest
invariant-loop-rest l = with_names l.names (lines l.rest) ≡ with_names [] (lines l.change)

abbrev pub decreases-loop-rest : goal.decreases-loop-rest
decreases-loop-rest l = length l.rest
