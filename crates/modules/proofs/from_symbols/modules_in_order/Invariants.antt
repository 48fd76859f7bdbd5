use Rattle.modules.proofs.Words.{◌≡◌, ◌+◌, take, length, AreLeft, kept_numbers, modules_numbered}
use Rattle.modules.proofs.from_symbols.modules_in_order.Given as goal

abbrev pub invariant-loop-mark : goal.invariant-loop-mark
invariant-loop-mark l = record {
  modules : l.modules.items
      ≡ modules_numbered l.numbers l.items (kept_numbers l.items (take l.mark-index l.marks));
  left : AreLeft (length l.numbers + 1) l.items (kept_numbers l.items (take l.mark-index l.marks))
      l.lists.items;
}
