use Rattle.histories.proofs.Words.{◌≡◌, length, after_parts}
use Rattle.std.specs.Cow.{cow_slice_items}
use Rattle.histories.proofs.listings_at.after_parts.Given as goal

-- the listing so far, and then the other parts
abbrev pub invariant-loop-rest : goal.invariant-loop-rest
invariant-loop-rest l =
    after_parts (cow_slice_items l.text) l.rest ≡ after_parts (cow_slice_items l.fn.before) l.parts

abbrev pub decreases-loop-rest : goal.decreases-loop-rest
decreases-loop-rest l = length l.rest
