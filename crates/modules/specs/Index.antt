-- Symbols by rising address.
use Rattle.std.specs.Prelude.{◌≡◌, ℕ, ◌-◌, ◌<◌, ◌≤◌, Bool, ◌&&◌, ◌||◌, nat_lt, nat_eq, List, []}
use Rattle.std.specs.Prelude.{length}
use Rattle.std.specs.Prelude.{slice_index_or, map, IsPermutation, Option, Some}
use Rattle.std.specs.Global.{Vec}
use Rattle.std.specs.List.{enumerate_from}
use Rattle.std.specs.List.Sorted.{IsSortedBy, IsNonDecreasingBy}
use Rattle.modules.specs.Entries.{SymbolEntry}
use Rattle.modules.specs.declared.symbols.IndexEntry.{IndexEntry}

-- the address of each symbol, with its place
abbrev pub index_entries_of : List SymbolEntry → List IndexEntry
index_entries_of symbols =
    map (λ p. record { addr = p.1.addr; place = p.0 }) (enumerate_from 0 symbols)

-- a lesser address comes first, and of equal ones the later place
abbrev pub comes_before : IndexEntry → IndexEntry → Bool
comes_before x y = nat_lt x.addr y.addr || (nat_eq x.addr y.addr && nat_lt y.place x.place)

-- the entries of the symbols in this order
pub record IsIndex (symbols : List SymbolEntry) (index : List IndexEntry) : Type 0 where
  pub sorted : IsSortedBy comes_before index
  pub listed : IsPermutation (index_entries_of symbols) index

-- what lies below the place is by its measure not above the address, and the rest is
pub record IsSplitBy {A : Type 0} (measure : A → ℕ) (xs : List A) (addr place : ℕ) : Type 0 where
  pub bound : place ≤ length xs
  pub below : (k : ℕ) (d : A) → k < place → measure (slice_index_or xs k d) ≤ addr
  pub above : (k : ℕ) (d : A) → place ≤ k → k < length xs → addr < measure (slice_index_or xs k d)

-- by its measure, the entry before the place is not above the address, and the entry at it is
pub record IsBorder {A : Type 0} (measure : A → ℕ) (xs : List A) (addr place : ℕ) : Type 0 where
  pub bound : place ≤ length xs
  pub below : (d : A) → 0 < place → measure (slice_index_or xs (place - 1) d) ≤ addr
  pub above : (d : A) → place < length xs → addr < measure (slice_index_or xs place d)

-- the entries below the place are not above the address, and the others are
abbrev pub IsSplit : List IndexEntry → ℕ → ℕ → Type 0
IsSplit index addr place = IsSplitBy (λ e. e.addr) index addr place

-- the symbols are listed by rising address
abbrev pub IsRising : List SymbolEntry → Type 0
IsRising symbols = IsNonDecreasingBy (λ s. s.addr) symbols

-- the symbols below the place are below the address, and the others are not
pub record IsFirstOf (symbols : List SymbolEntry) (addr place : ℕ) : Type 0 where
  pub bound : place ≤ length symbols
  pub below : (k : ℕ) (d : SymbolEntry) → k < place → (slice_index_or symbols k d).addr < addr
  pub others : (k : ℕ) (d : SymbolEntry) → place ≤ k → k < length symbols
      → addr ≤ (slice_index_or symbols k d).addr

-- by its measure, the entry before the place is below the address, and the entry at it is not
pub record IsFirstBorder {A : Type 0} (measure : A → ℕ) (xs : List A) (addr place : ℕ)
    : Type 0 where
  pub bound : place ≤ length xs
  pub below : (d : A) → 0 < place → measure (slice_index_or xs (place - 1) d) < addr
  pub others : (d : A) → place < length xs → addr ≤ measure (slice_index_or xs place d)

-- the symbol of an entry of their index
abbrev pub symbol_of_entry : List SymbolEntry → IndexEntry → SymbolEntry
symbol_of_entry symbols e =
    slice_index_or symbols e.place (record { addr = e.addr; letter = 0; name = [] })

-- the symbols in the order of their index
pub record IsOrdered (symbols ordered : List SymbolEntry) : Type 0 where
  pub index : List IndexEntry
  pub is : IsIndex symbols index
  pub each : ordered ≡ map (symbol_of_entry symbols) index

-- if there is a copy of the symbols in order, it is theirs
abbrev pub HasOrdered : List SymbolEntry → Option (Vec SymbolEntry) → Type 0
HasOrdered symbols by_address =
    (v : Vec SymbolEntry) → by_address ≡ Some v → IsOrdered symbols v.items
