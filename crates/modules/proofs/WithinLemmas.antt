-- The symbols of a module that lie in one of its regions.
use Rattle.modules.proofs.Words.{◌≡◌, ℕ, ◌<◌, ◌≤◌, ◌&&◌, nat_lt, nat_le, cond, min, List, Some}
use Rattle.modules.proofs.Words.{None, Option, ap, ◌∙◌, arith, find, unwrap_or, option_map}
use Rattle.modules.proofs.Lemmas.{le-leb, leb-true, lt-leb, lt-ltb, ltb-false, ltb-true}
use Rattle.modules.proofs.Lemmas.{le_or_past_within, least_above_within, find-agree, find-both_none}
use Rattle.modules.proofs.Lemmas.{find-both_some, find-filter, list_all-agree, list_all-filter}
use Rattle.modules.proofs.Lemmas.{and-needless_first, and-needless_second}
use Rattle.modules.proofs.Definitions.{address_above, is_nearest, is_next, symbol_below}
use Rattle.modules.proofs.Definitions.{SymbolEntry, symbols_from}
use Rattle.modules.proofs.AroundLemmas.{one_nearest, one_next}

below_within : (symbols : List SymbolEntry) (start end addr : ℕ) → start ≤ addr → addr < end
    → symbol_below (symbols_from symbols start end) addr
    ≡ find (λ s. nat_le start s.addr && is_nearest symbols addr s) symbols
below_within symbols start end addr from below = grind (
  arith,
  find-filter,
  find-agree,
  and-needless_second,
  leb-true,
  lt-ltb,
  list_all-filter,
  list_all-agree,
  le_or_past_within,
)

above_within : (symbols : List SymbolEntry) (start end addr : ℕ) → start ≤ addr
    → find (is_next (symbols_from symbols start end) addr) (symbols_from symbols start end)
    ≡ find (λ s. nat_lt s.addr end && is_next symbols addr s) symbols
above_within symbols start end addr from = grind (
  arith,
  find-filter,
  find-agree,
  and-needless_first,
  ltb-true,
  le-leb,
  list_all-filter,
  list_all-agree,
  least_above_within,
)

-- where no symbol of the module is below the address, none of the region is
pub none_within : (symbols : List SymbolEntry) (start end addr : ℕ) → start ≤ addr → addr < end
    → symbol_below symbols addr ≡ None → symbol_below (symbols_from symbols start end) addr ≡ None
none_within symbols start end addr from below none = below_within symbols start end addr from below
    ∙ find-both_none (λ s. nat_le start s.addr) (is_nearest symbols addr) symbols none

nearest_within : (symbols : List SymbolEntry) (start end addr : ℕ) (s : SymbolEntry) → start ≤ addr
    → addr < end → symbol_below symbols addr ≡ Some s
    → symbol_below (symbols_from symbols start end) addr ≡ cond (nat_le start s.addr) (Some s) None
nearest_within symbols start end addr s from below is =
    below_within symbols start end addr from below
    ∙ find-both_some (λ x. nat_le start x.addr) (is_nearest symbols addr) symbols s is
    (λ k d lt passes. ap (nat_le start) (one_nearest symbols addr s is k d lt passes))

-- where the nearest symbol of the module lies before the region, none of the region is below the
-- address
pub before_within : (symbols : List SymbolEntry) (start end addr : ℕ) (s : SymbolEntry)
    → start ≤ addr → addr < end → symbol_below symbols addr ≡ Some s → s.addr < start
    → symbol_below (symbols_from symbols start end) addr ≡ None
before_within symbols start end addr s from below is out =
    nearest_within symbols start end addr s from below is
    ∙ ap (λ b. cond b (Some s) None) (lt-leb start s.addr out)

pub some_within : (symbols : List SymbolEntry) (start end addr : ℕ) (s : SymbolEntry) → start ≤ addr
    → addr < end → symbol_below symbols addr ≡ Some s → start ≤ s.addr
    → symbol_below (symbols_from symbols start end) addr ≡ Some s
some_within symbols start end addr s from below is on =
    nearest_within symbols start end addr s from below is
    ∙ ap (λ b. cond b (Some s) None) (le-leb start s.addr on)

reach_at : (s : SymbolEntry) (end : ℕ)
    → unwrap_or (option_map (λ (t : SymbolEntry). t.addr) (cond (nat_lt s.addr end) (Some s) None))
    end ≡ min s.addr end
reach_at s end = grind (arith, ltb-true, ltb-false)

reach_by : (o : Option SymbolEntry) (symbols : List SymbolEntry) (end addr : ℕ)
    → find (is_next symbols addr) symbols ≡ o → unwrap_or (option_map (λ (s : SymbolEntry). s.addr)
    (find (λ s. nat_lt s.addr end && is_next symbols addr s) symbols)) end
    ≡ min (unwrap_or (option_map (λ (s : SymbolEntry). s.addr) o) end) end
reach_by None symbols end addr none =
    ap (λ (o : Option SymbolEntry). unwrap_or (option_map (λ (s : SymbolEntry). s.addr) o) end)
    (find-both_none (λ s. nat_lt s.addr end) (is_next symbols addr) symbols none) ∙ omega arith
reach_by (Some s) symbols end addr is =
    ap (λ (o : Option SymbolEntry). unwrap_or (option_map (λ (t : SymbolEntry). t.addr) o) end)
    (find-both_some (λ x. nat_lt x.addr end) (is_next symbols addr) symbols s is
    (λ k d lt passes. ap (λ a. nat_lt a end) (one_next symbols addr s is k d lt passes)))
    ∙ reach_at s end

-- a symbol of the region reaches to the next one of the module, or to the region's end
pub reach_within : (symbols : List SymbolEntry) (start end addr : ℕ) → start ≤ addr
    → unwrap_or (address_above (symbols_from symbols start end) addr) end
    ≡ min (unwrap_or (address_above symbols addr) end) end
reach_within symbols start end addr from = grind (arith, above_within, reach_by)
