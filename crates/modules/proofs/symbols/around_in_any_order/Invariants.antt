use Rattle.modules.proofs.Words.{◌≡◌, take, option_copied}
use Rattle.modules.specs.Around.{address_above, symbol_below}
use Rattle.modules.proofs.symbols.around_in_any_order.Given as goal

abbrev pub invariant-loop-symbol : goal.invariant-loop-symbol
invariant-loop-symbol l = record {
  below : option_copied l.below ≡ symbol_below (take l.symbol-index l.symbols) l.addr;
  above : l.above ≡ address_above (take l.symbol-index l.symbols) l.addr;
}
