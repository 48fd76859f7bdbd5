-- The symbols around an address, in a list that is in no order.
use Rattle.std.specs.Prelude.{ℕ, Bool, ◌&&◌, ◌||◌, nat_le, nat_lt, List, find, Option}
use Rattle.std.specs.List.{list_all}
use Rattle.std.specs.Option.{option_map}
use Rattle.modules.specs.Entries.{SymbolEntry}

-- the symbol is not above the address, and no symbol lies above it and not above the address
abbrev pub is_nearest : List SymbolEntry → ℕ → SymbolEntry → Bool
is_nearest symbols addr s =
    nat_le s.addr addr && list_all (λ t. nat_le t.addr s.addr || nat_lt addr t.addr) symbols

-- the symbol of the greatest address that is not above this one, the first listed among equal
-- addresses
abbrev pub symbol_below : List SymbolEntry → ℕ → Option SymbolEntry
symbol_below symbols addr = find (is_nearest symbols addr) symbols

-- the symbol is above the address, and no symbol lies between them
abbrev pub is_next : List SymbolEntry → ℕ → SymbolEntry → Bool
is_next symbols addr s =
    nat_lt addr s.addr && list_all (λ t. nat_le t.addr addr || nat_le s.addr t.addr) symbols

-- the least address of a symbol above this one
abbrev pub address_above : List SymbolEntry → ℕ → Option ℕ
address_above symbols addr = option_map (λ s. s.addr) (find (is_next symbols addr) symbols)
