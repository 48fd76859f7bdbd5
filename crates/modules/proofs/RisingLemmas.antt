-- Symbols that are listed by rising address.
use Rattle.modules.proofs.Words.{◌≡◌, ℕ, ◌-◌, ◌<◌, ◌≤◌, true, false, nat_lt, List, length, get_or}
use Rattle.modules.proofs.Words.{Some, None, arith, slice_get, option_map, IsPartitionPoint}
use Rattle.modules.proofs.Lemmas.{cases_lt, ltb-false, ltb-true, get_or_default, slice_get_cases}
use Rattle.modules.proofs.Definitions.{IsSplitBy, symbol_below, address_above, SymbolEntry}
use Rattle.modules.proofs.Definitions.{IsFirstBorder, IsFirstOf, IsRising}
use Rattle.modules.proofs.AroundLemmas.{above_found, above_none, below_found, below_none}

pub IsFirstOf-from_partition : (symbols : List SymbolEntry) (addr split : ℕ)
    → split ≤ length symbols → IsPartitionPoint (λ s. nat_lt s.addr addr ≡ true)
    (λ s. nat_lt s.addr addr ≡ false) symbols split → IsFirstOf symbols addr split
IsFirstOf-from_partition symbols addr split bound point = grind (arith, ltb-true, ltb-false)

-- where symbols rise, the neighbours of a place tell which are below an address
pub first_from_border : (symbols : List SymbolEntry) (addr place : ℕ) → IsRising symbols
    → IsFirstBorder (λ s. s.addr) symbols addr place → IsFirstOf symbols addr place
first_from_border symbols addr place rising border =
    let bound = border.bound in
    record {
      bound = bound;
      below = λ k d lt.
          omega (
            arith,
            rising k (place - 1) d (omega arith) (omega arith),
            border.below d (omega arith),
          );
      others = λ k d le lt.
          omega (arith, rising place k d le lt, border.others d (omega arith));
    }

-- ---- the symbol that is not above an address

pub none_below : (symbols : List SymbolEntry) (addr : ℕ)
    → IsSplitBy (λ (s : SymbolEntry). s.addr) symbols addr 0 → symbol_below symbols addr ≡ None
none_below symbols addr split = below_none symbols addr (λ k d lt. split.above k d (omega arith) lt)

-- the first of those that have the address of the last one below
record IsFound (symbols : List SymbolEntry) (addr split first : ℕ) (s : SymbolEntry) : Type 0 where
  pub within : first < length symbols
  pub lower : first < split
  pub same : (get_or symbols first s).addr ≡ (get_or symbols (split - 1) s).addr

first_found : (symbols : List SymbolEntry) (addr split first : ℕ) (s : SymbolEntry)
    → IsRising symbols → IsSplitBy (λ (s : SymbolEntry). s.addr) symbols addr split → 0 < split
    → IsFirstOf symbols (get_or symbols (split - 1) s).addr first
    → IsFound symbols addr split first s
first_found symbols addr split first s rising parts some is = grind (arith, cases_lt)

pub first_within : (symbols : List SymbolEntry) (addr split first : ℕ) (s : SymbolEntry)
    → IsRising symbols → IsSplitBy (λ (s : SymbolEntry). s.addr) symbols addr split → 0 < split
    → IsFirstOf symbols (get_or symbols (split - 1) s).addr first → first < length symbols
first_within symbols addr split first s rising parts some is =
    (first_found symbols addr split first s rising parts some is).within

pub first_below : (symbols : List SymbolEntry) (addr split first : ℕ) (s : SymbolEntry)
    → IsRising symbols → IsSplitBy (λ (s : SymbolEntry). s.addr) symbols addr split → 0 < split
    → IsFirstOf symbols (get_or symbols (split - 1) s).addr first
    → symbol_below symbols addr ≡ Some (get_or symbols first s)
first_below symbols addr split first s rising parts some is =
    let found = first_found symbols addr split first s rising parts some is in
    let low : (get_or symbols (split - 1) s).addr ≤ addr =
    parts.below (split - 1) s (omega arith) in
    below_found symbols addr first s found.within (omega (arith, found.same, low))
    (λ j t lt. grind (
      arith,
      cases_lt,
      get_or_default,
      found.same,
      rising j (split - 1) s,
      rising j (split - 1) t,
    ))
    (λ k less same. let under = is.below k s less in omega (arith, found.same, same))

-- ---- the least address above an address

first_above : (symbols : List SymbolEntry) (addr split : ℕ) → IsRising symbols
    → IsSplitBy (λ (s : SymbolEntry). s.addr) symbols addr split → (s : SymbolEntry)
    → split < length symbols → address_above symbols addr ≡ Some (get_or symbols split s).addr
first_above symbols addr split rising parts s within =
    above_found symbols addr split s within (parts.above split s (omega arith) within)
    (λ j t l. grind (arith, cases_lt, get_or_default, rising split j t))

pub above_in : (symbols : List SymbolEntry) (addr split : ℕ) → IsRising symbols
    → IsSplitBy (λ (s : SymbolEntry). s.addr) symbols addr split
    → option_map (λ s. s.addr) (slice_get symbols split) ≡ address_above symbols addr
above_in symbols addr split rising parts = grind (arith, first_above, above_none, slice_get_cases)
