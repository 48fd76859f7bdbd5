use Rattle.listing.proofs.Words.{◌≡◌, length, runs_of}
use Rattle.listing.proofs.gaps.next_word.Given as goal

-- what was cut off so far has no word
abbrev pub invariant-loop-more : goal.invariant-loop-more
invariant-loop-more l = runs_of l.rest ≡ runs_of l.line

abbrev pub decreases-loop-more : goal.decreases-loop-more
decreases-loop-more l = length l.rest
