-- Copies of symbols in the order of their index.
use Rattle.modules.proofs.Words.{◌≡◌, ℕ, ◌-◌, ◌<◌, ◌≤◌, List, [], length, get_or, Some, None, ap}
use Rattle.modules.proofs.Words.{sym, subst, ◌∙◌, ⊎_elim, arith, slice_get, option_map}
use Rattle.modules.proofs.Words.{common_steps}
use Rattle.modules.proofs.Lemmas.{get_or-map, get_or_default, length-map, slice_get-get_or}
use Rattle.modules.proofs.Lemmas.{slice_get_cases}
use Rattle.modules.proofs.Definitions.{IsSplitBy, address_above, symbol_below, SymbolEntry, IsIndex}
use Rattle.modules.proofs.Definitions.{IsOrdered, IsRising, IsSplit, symbol_of_entry, IndexEntry}
use Rattle.modules.proofs.IndexLemmas.{each_entry, first_above, last_below as last_entry_below}
use Rattle.modules.proofs.IndexLemmas.{none_above, none_below as no_entry_below}
use Rattle.modules.proofs.IndexLemmas.{rising as index_rises}

abbrev no_symbol : SymbolEntry
no_symbol = record { addr = 0; letter = 0; name = [] }

abbrev no_entry : IndexEntry
no_entry = record { addr = 0; place = 0 }

pub entry_within : (symbols : List SymbolEntry) (index : List IndexEntry) → IsIndex symbols index
    → (e : IndexEntry) (k : ℕ) → k < length index → e ≡ get_or index k e → e.place < length symbols
entry_within symbols index is e k lt at = subst (λ (x : IndexEntry). x.place < length symbols)
    (sym at) (each_entry symbols index is k e lt).0

module _ (symbols ordered : List SymbolEntry) (is : IsOrdered symbols ordered) where
  as_many : length ordered ≡ length is.index
  as_many = ap length is.each ∙ length-map is.index (symbol_of_entry symbols)

  symbol_at : (k : ℕ) (s : SymbolEntry) (e : IndexEntry) → k < length is.index
      → get_or ordered k s ≡ symbol_of_entry symbols (get_or is.index k e)
  symbol_at k s e lt = ap (λ (l : List SymbolEntry). get_or l k s) is.each
      ∙ get_or-map (symbol_of_entry symbols) is.index k e s lt

  address_at : (k : ℕ) (s : SymbolEntry) (e : IndexEntry) → k < length is.index
      → (get_or ordered k s).addr ≡ (get_or is.index k e).addr
  address_at k s e lt = grind (arith, common_steps, symbol_at, each_entry)

  pub rising : IsRising ordered
  rising = λ i j s le lt.
      omega (
        arith,
        as_many,
        address_at i s no_entry (omega (arith, as_many)),
        address_at j s no_entry (omega (arith, as_many)),
        index_rises symbols is.index is.is i j no_entry le (omega (arith, as_many)),
      )

  module _ (addr split : ℕ)
      (parts : IsSplitBy (λ (s : SymbolEntry). s.addr) ordered addr split) where
    of_index : IsSplit is.index addr split
    of_index =
        let bound = parts.bound in
        record {
          bound = omega (arith, as_many, bound);
          below = λ k e lt.
              subst (λ n. n ≤ addr) (address_at k no_symbol e (omega (arith, as_many, bound)))
              (parts.below k no_symbol lt);
          above = λ k e le lt. subst (λ n. addr < n) (address_at k no_symbol e lt)
              (parts.above k no_symbol le (omega (arith, as_many)));
        }

    pub none_below : split ≡ 0 → symbol_below symbols addr ≡ None
    none_below zero = no_entry_below symbols is.index is.is addr
        (subst (λ n. IsSplit is.index addr n) zero of_index)

    pub last_below : 0 < split → slice_get ordered (split - 1) ≡ symbol_below symbols addr
    last_below some =
        let within : split - 1 < length is.index = let b = of_index.bound in omega arith in
        let e : IndexEntry = get_or is.index (split - 1) no_entry in
        slice_get-get_or ordered (split - 1) no_symbol (omega (arith, as_many, within))
        ∙ ap (λ (s : SymbolEntry). Some s) (symbol_at (split - 1) no_symbol no_entry within)
        ∙ sym (last_entry_below symbols is.index is.is addr split of_index some e
        (get_or_default is.index (split - 1) no_entry e within)
        (record { addr = e.addr; letter = 0; name = [] }))

    pub above_at : option_map (λ s. s.addr) (slice_get ordered split) ≡ address_above symbols addr
    above_at =
        ⊎_elim
        (λ (s, there, got, at).
        let within : split < length is.index = omega (arith, as_many, there) in
        let e : IndexEntry = get_or is.index split no_entry in
        ap (option_map (λ (t : SymbolEntry). t.addr)) got
        ∙ ap (λ (t : SymbolEntry). Some t.addr) (sym at)
        ∙ ap (λ n. Some n) (address_at split s no_entry within)
        ∙ sym (first_above symbols is.index is.is addr split of_index within e
        (get_or_default is.index split no_entry e within)))
        (λ (past, got). ap (option_map (λ (t : SymbolEntry). t.addr)) got ∙ sym
        (none_above symbols is.index is.is addr split of_index (omega (arith, as_many, past))))
        (slice_get_cases ordered split).1

-- the symbols around an address
pub ruleset around_ordered = (common_steps, last_below, above_at)
