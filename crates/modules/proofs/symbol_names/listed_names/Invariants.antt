use Rattle.modules.proofs.Words.{◌≡◌, names_below}
use Rattle.modules.proofs.symbol_names.listed_names.Given as goal

abbrev pub invariant-loop-number : goal.invariant-loop-number
invariant-loop-number l = l.names.items ≡ names_below l.catalog l.number
