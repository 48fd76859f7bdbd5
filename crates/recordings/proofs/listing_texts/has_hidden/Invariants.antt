use Rattle.recordings.proofs.Words.{◌≡◌, length, lines_of, has_hidden}
use Rattle.recordings.proofs.listing_texts.has_hidden.Given as goal

-- no line before the rest is hidden
abbrev pub invariant-loop-rest : goal.invariant-loop-rest
invariant-loop-rest l = has_hidden (lines_of l.rest) ≡ has_hidden (lines_of l.text)

abbrev pub decreases-loop-rest : goal.decreases-loop-rest
decreases-loop-rest l = length l.rest
