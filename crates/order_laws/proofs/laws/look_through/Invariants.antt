use Rattle.order_laws.proofs.Words.{◌≡◌, drop, look}
use Rattle.order_laws.proofs.laws.look_through.Given as goal

abbrev pub invariant-loop-item : goal.invariant-loop-item
invariant-loop-item g l = look g.O.TreeOrder.order l.key (drop l.item-index l.table)
    ≡ look g.O.TreeOrder.order l.key l.table
