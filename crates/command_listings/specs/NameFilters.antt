-- Which names symbols may have, by a number of each name.
use Rattle.std.specs.Prelude.{◌≡◌, ℕ, ◌+◌, ◌*◌, ◌/◌, ◌%◌, ◌^◌, Bool, true, false, List, [], ◌∷◌}
use Rattle.std.specs.Prelude.{All, IfSome, slice_index_or}
use Rattle.modules.specs.Catalogs.{module_of}
use Rattle.modules.specs.Entries.{CatalogEntries, SymbolEntry}
use Rattle.modules.specs.AtAddress.{lists_symbol}
use Rattle.command_listings.specs.declared.name_filter.TheConstants.{FACTOR}

-- the 64 bits that bytes make of those before them
abbrev pub bits_after : ℕ → List ℕ → ℕ
bits_after bits [] = bits
bits_after bits (b ∷ bytes) = bits_after ((bits + b) % 2 ^ 64 * FACTOR % 2 ^ 64) bytes

-- the number of a name: the highest 20 of its bits
unfoldable pub number_of : List ℕ → ℕ
number_of name = bits_after 0 name / 2 ^ 44

-- a name with a mark at its number
abbrev pub has_mark : List Bool → List ℕ → Bool
has_mark marks name = slice_index_or marks (number_of name) false

-- each symbol's name has a mark
abbrev pub HaveMarks : List Bool → List SymbolEntry → Type 0
HaveMarks marks symbols = All (λ s. has_mark marks s.name ≡ true) symbols

-- the names of all symbols of a catalog have marks
abbrev pub HoldsNames : List Bool → CatalogEntries → Type 0
HoldsNames marks c =
    (number : ℕ) → IfSome (module_of c number) (λ m. HaveMarks marks m.symbols)

-- no symbol of a catalog has this name
abbrev pub IsNoName : CatalogEntries → List ℕ → Type 0
IsNoName c name =
    (number : ℕ)
    → IfSome (module_of c number) (λ m. (addr : ℕ) → lists_symbol m.symbols addr name ≡ false)
