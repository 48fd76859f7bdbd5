use Rattle.modules.proofs.Words.{◌≡◌, ◌++◌, take, names_of_symbols}
use Rattle.modules.proofs.symbol_names.push_symbols.Given as goal

abbrev pub invariant-loop-place : goal.invariant-loop-place
invariant-loop-place l =
    l.names.items ≡ l.initial.names.items ++ take l.place (names_of_symbols l.number l.symbols)
