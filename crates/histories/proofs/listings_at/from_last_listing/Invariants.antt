use Rattle.histories.proofs.Words.{◌≤◌, drop, length}
use Rattle.histories.specs.ListingsAt.{AreChanges}
use Rattle.histories.proofs.listings_at.from_last_listing.Given as goal

-- no listing is from this place on
abbrev pub invariant-loop-i : goal.invariant-loop-i
invariant-loop-i l = record {
  within : l.i ≤ length l.parts;
  changes : AreChanges (drop l.i l.parts);
}

abbrev pub decreases-loop-i : goal.decreases-loop-i
decreases-loop-i l = l.i
