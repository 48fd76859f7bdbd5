use Rattle.recordings.proofs.Words.{◌≡◌, ◌++◌, List, ℕ, length, AreWhole}
use Rattle.recordings.proofs.event_lines.whole_length.Given as goal

-- the lines before the rest are whole
abbrev pub invariant-loop-more : goal.invariant-loop-more
invariant-loop-more l = (front : List ℕ) × (l.block ≡ front ++ l.rest) × AreWhole front

abbrev pub decreases-loop-more : goal.decreases-loop-more
decreases-loop-more l = length l.rest
