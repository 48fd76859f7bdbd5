-- What is found for an address, by places.
use Rattle.modules.proofs.Words.{◌≡◌, ℕ, ◌-◌, ◌<◌, Bool, true, false, ◌&&◌, ◌||◌, nat_lt, nat_le}
use Rattle.modules.proofs.Words.{List, get_or, Some, None, Option, refl, sym, ap, ◌∙◌, All}
use Rattle.modules.proofs.Words.{MatchOption, find, unwrap_or, list_all, option_map, arith}
use Rattle.modules.proofs.Lemmas.{false≢true, and_parts, leb-true, ltb-true, AllPass-from_list_all}
use Rattle.modules.proofs.Lemmas.{Contains-slice_get, le_or_past_cases, least_above_cases}
use Rattle.modules.proofs.Lemmas.{find-passes, find_place}
use Rattle.modules.proofs.Definitions.{is_nearest, is_next, symbol_below, SymbolEntry, IsFound}
use Rattle.modules.proofs.Definitions.{ReachesUpTo, symbol_found_at, found_in}
use Rattle.modules.proofs.AroundLemmas.{all_above, none_over}

reach_of : (symbols : List SymbolEntry) (end : ℕ) (s : SymbolEntry) (o : Option SymbolEntry)
    → find (is_next symbols s.addr) symbols ≡ o → ReachesUpTo symbols end s
    (unwrap_or (option_map (λ (t : SymbolEntry). t.addr) o) end - s.addr)
reach_of symbols end s o none = grind (
  arith,
  none_over,
  find_place,
  and_parts,
  find-passes,
  AllPass-from_list_all,
  Contains-slice_get,
  ltb-true,
  least_above_cases,
)

pub found_by_place : (symbols : List SymbolEntry) (end addr : ℕ) → MatchOption
    (found_in symbols end addr) (All (λ s. addr < s.addr) symbols) (IsFound symbols end addr)
found_by_place symbols end addr =
    elim (symbol_below symbols addr) as (λ o. symbol_below symbols addr ≡ o
    → MatchOption (option_map (symbol_found_at symbols end addr) o)
    (All (λ s. addr < s.addr) symbols) (IsFound symbols end addr)) [
      | None ↦ λ none. all_above symbols addr none
      | Some s ↦ λ is.
          let there = find_place (is_nearest symbols addr) symbols s is in
          let yes : is_nearest symbols addr s ≡ true =
          find-passes (is_nearest symbols addr) symbols s is in
          let passes = and_parts (nat_le s.addr addr)
          (list_all (λ (t : SymbolEntry). nat_le t.addr s.addr || nat_lt addr t.addr) symbols)
          yes in
          let others = AllPass-from_list_all
          (λ (t : SymbolEntry). nat_le t.addr s.addr || nat_lt addr t.addr) symbols passes.1 in
          let test : ℕ → Bool = λ a. nat_le a addr
          && list_all (λ (t : SymbolEntry). nat_le t.addr a || nat_lt addr t.addr) symbols in
          record {
            place = there.0;
            listed = there.1.at;
            below = leb-true s.addr addr passes.0;
            nearest =
                λ k d lt. le_or_past_cases (get_or symbols k d).addr s.addr addr (others k d lt);
            first = λ k d lt same. let no : test (get_or symbols k d).addr ≡ false =
                there.1.before k d lt in
                let so : test (get_or symbols k d).addr ≡ test s.addr = ap test same in
                let sure : test s.addr ≡ true = yes in
                false≢true (sym no ∙ so ∙ sure);
            offset = refl;
            reaches = reach_of symbols end s (find (is_next symbols s.addr) symbols) refl;
          }
    ] refl
