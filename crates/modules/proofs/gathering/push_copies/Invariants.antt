use Rattle.modules.proofs.Words.{◌≡◌, ◌++◌, take}
use Rattle.modules.proofs.gathering.push_copies.Given as goal

abbrev pub invariant-loop-symbol : goal.invariant-loop-symbol
invariant-loop-symbol l = l.list.items ≡ l.fn.list.items ++ take l.symbol-index l.symbols
