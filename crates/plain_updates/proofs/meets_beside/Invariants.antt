use Rattle.plain_updates.proofs.Words.{◌≡◌, drop, meets, without_all}
use Rattle.plain_updates.proofs.meets_beside.Given as goal

abbrev pub invariant-loop-x : goal.invariant-loop-x
invariant-loop-x g l = meets g.O.TreeOrder.order l.item (without_all l.but (drop l.x-index l.table))
    ≡ meets g.O.TreeOrder.order l.item (without_all l.but l.table)
