use Rattle.plain_updates.proofs.Words.{◌≡◌, drop, some_overlap}
use Rattle.plain_updates.proofs.some_overlap.Given as goal

abbrev pub invariant-loop-place : goal.invariant-loop-place
invariant-loop-place g l = some_overlap g.O.TreeOrder.order (drop l.place l.items)
    ≡ some_overlap g.O.TreeOrder.order l.items
