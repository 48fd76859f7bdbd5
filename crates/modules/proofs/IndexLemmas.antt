-- The order of the index.
use Rattle.modules.proofs.Words.{◌≡◌, ℕ, zero, suc, subst, ◌+◌, ◌-◌, ◌<◌, ◌≤◌, ◌⊎◌, true, false}
use Rattle.modules.proofs.Words.{nat_le, List, [], ◌∷◌, length, get_or, map, Some, None, sym, ap}
use Rattle.modules.proofs.Words.{◌∙◌, arith, IsStrictWeakOrder, All, slice_get, enumerate_from}
use Rattle.modules.proofs.Words.{option_map, IsNonDecreasingBy, IsPartitionPoint, common_steps}
use Rattle.modules.proofs.Lemmas.{slice_get_cases, length-map, get_or_default}
use Rattle.modules.proofs.Lemmas.{length-enumerate_from, All-permutation, IsPermutation-sym}
use Rattle.modules.proofs.Lemmas.{IsPermutation-trans, sorted_far, cases_lt, leb-false, leb-true}
use Rattle.modules.proofs.Lemmas.{pairs_chain, pairs_not_before, pairs_one_way}
use Rattle.modules.proofs.Definitions.{symbol_below, address_above, SymbolEntry, comes_before}
use Rattle.modules.proofs.Definitions.{index_entries_of, IsIndex, IsBorder, IsSplit, IsSplitBy}
use Rattle.modules.proofs.Definitions.{IndexEntry}
use Rattle.modules.proofs.AroundLemmas.{above_found, above_none, below_found, below_none}

-- the order of the index by numbers
pub comes_before_weak : IsStrictWeakOrder comes_before
comes_before_weak = grind (arith, pairs_one_way, pairs_chain)

-- ---- the index and its symbols

pub entry_at : (symbols : List SymbolEntry) (n j k : ℕ) (d : IndexEntry) (s : SymbolEntry)
    → j < length symbols → k ≡ n + j
    → get_or (map (λ (p : ℕ × SymbolEntry). record { addr = p.1.addr; place = p.0 })
    (enumerate_from n symbols)) j d ≡ record { addr = (get_or symbols j s).addr; place = k }
entry_at [] n j k d s lt e = absurd (omega arith)
entry_at (x ∷ xs) n zero k d s lt e = let same : n ≡ k = omega arith in
    ap (λ (m : ℕ). let r : IndexEntry = record { addr = x.addr; place = m } in r) same
entry_at (x ∷ xs) n (suc j) k d s lt e = entry_at xs (n + 1) j k d s (omega arith) (omega arith)

pub length-entries_of : (symbols : List SymbolEntry)
    → length (index_entries_of symbols) ≡ length symbols
length-entries_of symbols = length-map (enumerate_from 0 symbols) (λ (p : ℕ × SymbolEntry).
    record { addr = p.1.addr; place = p.0 }) ∙ length-enumerate_from 0 symbols

-- what all entries have, the entry of each symbol has
pub all_symbols : (symbols : List SymbolEntry) (index : List IndexEntry) → IsIndex symbols index
    → (P : IndexEntry → Type 0) → All P index → (j : ℕ) (s : SymbolEntry) → j < length symbols
    → P (record { addr = (get_or symbols j s).addr; place = j })
all_symbols symbols index is P all j s lt =
    let d : IndexEntry = record { addr = 0; place = 0 } in
    let here : P (get_or (index_entries_of symbols) j d) = All-permutation P index
    (index_entries_of symbols) (IsPermutation-sym (index_entries_of symbols) index is.listed)
    all j d (rw (length-entries_of symbols) lt) in
    subst P (entry_at symbols 0 j j d s lt (omega arith)) here

-- each entry is that of its symbol
pub each_entry : (symbols : List SymbolEntry) (index : List IndexEntry) → IsIndex symbols index
    → All (λ e. (e.place < length symbols)
    × ((s : SymbolEntry) → (get_or symbols e.place s).addr ≡ e.addr)) index
each_entry symbols index is =
    All-permutation (λ (e : IndexEntry).
    (e.place < length symbols) × ((s : SymbolEntry) → (get_or symbols e.place s).addr ≡ e.addr))
    (index_entries_of symbols) index is.listed (λ j d lt.
    let within : j < length symbols = rw (← length-entries_of symbols) lt in
    let none : SymbolEntry = record { addr = 0; letter = 0; name = [] } in
    let place_is : (get_or (index_entries_of symbols) j d).place ≡ j =
    ap (λ (e : IndexEntry). e.place) (entry_at symbols 0 j j d none within (omega arith)) in (
      omega arith,
      λ s. ap (λ k. (get_or symbols k s).addr) place_is
          ∙ sym (ap (λ (e : IndexEntry). e.addr) (entry_at symbols 0 j j d s within (omega arith))),
    ))

pub in_order : (symbols : List SymbolEntry) (index : List IndexEntry) → IsIndex symbols index
    → (i j : ℕ) (d : IndexEntry) → i ≤ j → j < length index
    → ((get_or index i d).addr ≤ (get_or index j d).addr) × ((get_or index i d).addr
    ≡ (get_or index j d).addr → (get_or index j d).place ≤ (get_or index i d).place)
in_order symbols index is i j d le lt =
    pairs_not_before (get_or index i d).addr (get_or index i d).place (get_or index j d).addr
    (get_or index j d).place
    (sorted_far comes_before comes_before_weak index is.sorted i j d le lt)

pub rising : (symbols : List SymbolEntry) (index : List IndexEntry) → IsIndex symbols index
    → IsNonDecreasingBy (λ e. e.addr) index
rising symbols index is = λ i j d le lt. (in_order symbols index is i j d le lt).0

-- a partition by a test of the measure splits the list
pub IsSplitBy-from_partition : {A : Type 0} (measure : A → ℕ) (xs : List A) (addr split : ℕ)
    → split ≤ length xs
    → IsPartitionPoint (λ x. nat_le (measure x) addr ≡ true) (λ x. nat_le (measure x) addr ≡ false)
    xs split
    → IsSplitBy measure xs addr split
IsSplitBy-from_partition measure xs addr split bound point = grind (arith, leb-true, leb-false)

-- where a list rises, the neighbours of a place tell what lies below it
pub split_from_border : {A : Type 0} (measure : A → ℕ) (xs : List A) (addr place : ℕ)
    → IsNonDecreasingBy measure xs → IsBorder measure xs addr place
    → IsSplitBy measure xs addr place
split_from_border measure xs addr place rising border =
    let bound = border.bound in
    record {
      bound = bound;
      below = λ k d lt.
          omega (
            arith,
            rising k (place - 1) d (omega arith) (omega arith),
            border.below d (omega arith),
          );
      above = λ k d le lt.
          omega (arith, rising place k d le lt, border.above d (omega arith));
    }

-- ---- the symbol that is not above an address

pub none_below : (symbols : List SymbolEntry) (index : List IndexEntry) → IsIndex symbols index
    → (addr : ℕ) → IsSplit index addr 0 → symbol_below symbols addr ≡ None
none_below symbols index is addr split = below_none symbols addr
    (all_symbols symbols index is (λ e. addr < e.addr) (λ k d l. split.above k d (omega arith) l))

pub last_below : (symbols : List SymbolEntry) (index : List IndexEntry) → IsIndex symbols index
    → (addr split : ℕ) → IsSplit index addr split → 0 < split → (e : IndexEntry)
    → e ≡ get_or index (split - 1) e → (s : SymbolEntry)
    → symbol_below symbols addr ≡ Some (get_or symbols e.place s)
last_below symbols index is addr split parts some e at s =
    let within : split - 1 < length index = let b = parts.bound in omega arith in
    let own = subst (λ (x : IndexEntry).
    (x.place < length symbols) × ((t : SymbolEntry) → (get_or symbols x.place t).addr ≡ x.addr))
    (sym at) (each_entry symbols index is (split - 1) e within) in
    let its : (get_or symbols e.place s).addr ≡ e.addr = own.1 s in
    let low : e.addr ≤ addr = subst (λ (x : IndexEntry). x.addr ≤ addr) (sym at)
    (parts.below (split - 1) e (omega arith)) in
    let near : All (λ (x : IndexEntry). ((x.addr ≤ e.addr) ⊎ (addr < x.addr))
    × (x.addr ≡ e.addr → e.place ≤ x.place)) index = λ k d lt. grind (
      arith,
      cases_lt,
      get_or_default,
      in_order symbols index is k (split - 1) d,
      at,
      parts.above k d,
    ) in
    below_found symbols addr e.place s own.0 (omega (arith, its, low))
    (λ j t lt. rw its (all_symbols symbols index is (λ (x : IndexEntry). ((x.addr ≤ e.addr)
    ⊎ (addr < x.addr)) × (x.addr ≡ e.addr → e.place ≤ x.place)) near j t lt).0)
    (λ k less same.
    let later =
    (all_symbols symbols index is (λ (x : IndexEntry). ((x.addr ≤ e.addr) ⊎ (addr < x.addr))
    × (x.addr ≡ e.addr → e.place ≤ x.place)) near k s (let o = own.0 in omega arith)).1
    (same ∙ its) in
    omega arith)

-- ---- the least address above an address

pub first_above : (symbols : List SymbolEntry) (index : List IndexEntry) → IsIndex symbols index
    → (addr split : ℕ) → IsSplit index addr split → split < length index → (e : IndexEntry)
    → e ≡ get_or index split e → address_above symbols addr ≡ Some e.addr
first_above symbols index is addr split parts within e at =
    let s : SymbolEntry = record { addr = 0; letter = 0; name = [] } in
    let own = subst (λ (x : IndexEntry).
    (x.place < length symbols) × ((t : SymbolEntry) → (get_or symbols x.place t).addr ≡ x.addr))
    (sym at) (each_entry symbols index is split e within) in
    let its : (get_or symbols e.place s).addr ≡ e.addr = own.1 s in
    let high : addr < e.addr = subst (λ (x : IndexEntry). addr < x.addr) (sym at)
    (parts.above split e (omega arith) within) in
    let beyond : All (λ (x : IndexEntry). (x.addr ≤ addr) ⊎ (e.addr ≤ x.addr)) index =
    λ k d lt. grind
    (arith, cases_lt, get_or_default, in_order symbols index is split k d, at, parts.below k d) in
    above_found symbols addr e.place s own.0 (omega (arith, its, high))
    (λ j t lt. rw its (all_symbols symbols index is
    (λ (x : IndexEntry). (x.addr ≤ addr) ⊎ (e.addr ≤ x.addr)) beyond j t lt))
    ∙ ap (λ n. Some n) its

pub none_above : (symbols : List SymbolEntry) (index : List IndexEntry) → IsIndex symbols index
    → (addr split : ℕ) → IsSplit index addr split → length index ≤ split
    → address_above symbols addr ≡ None
none_above symbols index is addr split parts all = above_none symbols addr
    (all_symbols symbols index is (λ e. e.addr ≤ addr) (λ k d l. parts.below k d (omega arith)))

pub above_at : (symbols : List SymbolEntry) (index : List IndexEntry) → IsIndex symbols index
    → (addr split : ℕ) → IsSplit index addr split
    → option_map (λ e. e.addr) (slice_get index split) ≡ address_above symbols addr
above_at symbols index is addr split parts = grind (
  arith,
  first_above symbols index is addr split parts,
  none_above symbols index is addr split parts,
  slice_get_cases index split,
)

-- entries that are moved twice
pub ruleset moved_on = (common_steps, IsPermutation-trans)

pub ruleset moved_twice = (IsPermutation-trans)
