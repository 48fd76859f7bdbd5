use Rattle.order_laws.proofs.Words.{◌≡◌, ◌+◌, drop, place_for}
use Rattle.order_laws.proofs.tables.place_for.Given as goal

abbrev pub invariant-loop-place : goal.invariant-loop-place
invariant-loop-place g l = l.place + place_for g.O.TreeOrder.order l.item (drop l.place l.table)
    ≡ place_for g.O.TreeOrder.order l.item l.table
