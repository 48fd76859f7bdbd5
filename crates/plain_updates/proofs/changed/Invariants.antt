use Rattle.plain_updates.proofs.Words.{◌≡◌, drop, without_all, with_items}
use Rattle.plain_updates.proofs.changed.Given as goal

abbrev pub invariant-loop-item : goal.invariant-loop-item
invariant-loop-item g l = with_items g.O.TreeOrder.order (drop l.item-index l.insert) l.new.items
    ≡ with_items g.O.TreeOrder.order l.insert (without_all l.erase l.table)
