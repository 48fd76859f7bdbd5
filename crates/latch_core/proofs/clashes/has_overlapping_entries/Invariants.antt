use Rattle.latch_core.proofs.Words.{◌≡◌, drop, some_overlap}
use Rattle.latch_core.proofs.clashes.has_overlapping_entries.Given as goal

abbrev pub invariant-loop-place : goal.invariant-loop-place
invariant-loop-place g l = some_overlap g.O.TreeOrder.order (drop l.place l.items)
    ≡ some_overlap g.O.TreeOrder.order l.items
