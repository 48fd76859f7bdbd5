-- The symbol below an address and the address above it.
use Rattle.modules.proofs.Words.{◌≡◌, ℕ, ◌-◌, List, Some, unwrap_or, arith}
use Rattle.modules.proofs.Definitions.{address_above, symbol_below, SymbolEntry, Found, found_in}
use Rattle.modules.proofs.AroundLemmas.{above_same, above_gt, below_le}
use Rattle.modules.proofs.WithinLemmas.{before_within, none_within, reach_within, some_within}

abbrev pub found : SymbolEntry → ℕ → ℕ → Found
found s offset size = record { symbol = s; offset = offset; size = size }

-- what the two neighbours of an address give
pub found_is : (symbols : List SymbolEntry) (end addr : ℕ) (s : SymbolEntry) (own reach : ℕ)
    → symbol_below symbols addr ≡ Some s → own ≡ s.addr
    → reach ≡ unwrap_or (address_above symbols addr) end
    → Some (found s (addr - own) (reach - own)) ≡ found_in symbols end addr
found_is symbols end addr s own reach below own_is reach_is = grind (arith, above_same)

-- what is found in a region
pub ruleset found_around =
    (below_le, above_gt, none_within, before_within, reach_within, some_within, found_is)
