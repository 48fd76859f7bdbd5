use Rattle.plain_updates.proofs.Words.{◌≡◌, drop, meets}
use Rattle.plain_updates.proofs.meets.Given as goal

abbrev pub invariant-loop-x : goal.invariant-loop-x
invariant-loop-x g l = meets g.O.TreeOrder.order l.item (drop l.x-index l.table)
    ≡ meets g.O.TreeOrder.order l.item l.table
