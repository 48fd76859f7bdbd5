use Rattle.recordings.proofs.Words.{◌≡◌, ◌++◌, length, lines, recorded_text}
use Rattle.recordings.proofs.listing_texts.recorded_text.Given as goal

-- the lines so far, and those of the rest
abbrev pub invariant-loop-rest : goal.invariant-loop-rest
invariant-loop-rest l = l.kept.items ++ recorded_text (lines l.rest) ≡ recorded_text (lines l.text)

abbrev pub decreases-loop-rest : goal.decreases-loop-rest
decreases-loop-rest l = length l.rest
