use Rattle.modules.proofs.Words.{[], take, AreLeft}
use Rattle.modules.proofs.from_symbols.regions_by_number.Given as goal

abbrev pub invariant-loop-item : goal.invariant-loop-item
invariant-loop-item l = AreLeft l.count (take l.item-index l.items) [] l.lists.items
