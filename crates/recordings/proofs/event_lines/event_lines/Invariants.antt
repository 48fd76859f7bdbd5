use Rattle.recordings.proofs.Words.{◌≡◌, ◌++◌, length, lines, map, said_by}
use Rattle.recordings.proofs.event_lines.event_lines.Given as goal

-- what the lines so far say, and those of the rest
abbrev pub invariant-loop-rest : goal.invariant-loop-rest
invariant-loop-rest l = l.said.items ++ map said_by (lines l.rest) ≡ map said_by (lines l.text)

abbrev pub decreases-loop-rest : goal.decreases-loop-rest
decreases-loop-rest l = length l.rest
