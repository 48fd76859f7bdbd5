use Rattle.recordings.proofs.Words.{◌≡◌, ◌++◌, length, text_of}
use Rattle.recordings.proofs.module_lines.text_of.Given as goal

-- the lines so far, and those of the rest
abbrev pub invariant-loop-rest : goal.invariant-loop-rest
invariant-loop-rest l = l.text.items ++ text_of l.rest l.name ≡ text_of l.modules l.name

abbrev pub decreases-loop-rest : goal.decreases-loop-rest
decreases-loop-rest l = length l.rest
