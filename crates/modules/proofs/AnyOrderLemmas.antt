-- The symbols around an address, one symbol more at a time.
use Rattle.modules.proofs.Words.{◌≡◌, ℕ, ◌<◌, ◌≤◌, ◌⊎◌, inl, inr, ⊎_elim, true, ◌&&◌, nat_le}
use Rattle.modules.proofs.Words.{nat_lt, cond, List, [], ◌∷◌, ◌++◌, length, get_or, Some, None}
use Rattle.modules.proofs.Words.{Option, refl, ap, subst, ◌∙◌, arith, All, MatchOption, find}
use Rattle.modules.proofs.Words.{length-append, option_map, option_map_or, common_steps, nat_tests}
use Rattle.modules.proofs.Lemmas.{All-push, cases_lt, find-passes, find_place, get_or_append_left}
use Rattle.modules.proofs.Lemmas.{get_or_push, get_or_from_slice_get, least_above_cases}
use Rattle.modules.proofs.Lemmas.{slice_get_within}
use Rattle.modules.proofs.Definitions.{address_above, symbol_below, symbol_found_at, is_next}
use Rattle.modules.proofs.Definitions.{IsFound, SymbolEntry}
use Rattle.modules.proofs.AroundLemmas.{above_found, above_none, all_above, below_found, below_none}
use Rattle.modules.proofs.AroundLemmas.{next_parts, none_over}
use Rattle.modules.proofs.FindLemmas.{found_by_place}

module _ (symbols : List SymbolEntry) (addr : ℕ) (s : SymbolEntry) where
  abbrev more : List SymbolEntry
  more = symbols ++ s ∷ []

  at_end : get_or more (length symbols) s ≡ s
  at_end = get_or_push symbols s s (length symbols) refl

  at_front : (k : ℕ) (t : SymbolEntry) → k < length symbols → get_or symbols k s ≡ t
      → get_or more k s ≡ t
  at_front k t lt is = get_or_append_left symbols (s ∷ []) s k lt ∙ is

  -- ---- the symbol below

  below_last : s.addr ≤ addr → All (λ t. (t.addr < s.addr) ⊎ (addr < t.addr)) symbols
      → symbol_below more addr ≡ Some s
  below_last low others =
      let near : All (λ (t : SymbolEntry). (t.addr ≤ s.addr) ⊎ (addr < t.addr)) more =
      All-push (λ (t : SymbolEntry). (t.addr ≤ s.addr) ⊎ (addr < t.addr)) symbols s
      (λ k d lt. ⊎_elim (λ less. inl (omega arith)) (λ past. inr past) (others k d lt))
      (inl (omega arith)) in
      below_found more addr (length symbols) s (omega (arith, length-append symbols (s ∷ [])))
      (rw at_end low) (rw at_end near)
      (λ k lt. rw (at_end, at_front k (get_or symbols k s) lt refl)
      (λ same. ⊎_elim (λ less. omega arith) (λ past. omega arith) (others k s lt)))
      ∙ ap Some at_end

  found_at : (t : SymbolEntry) → symbol_below symbols addr ≡ Some t
      → IsFound symbols 0 addr (symbol_found_at symbols 0 addr t)
  found_at t is = subst (λ o. MatchOption (option_map (symbol_found_at symbols 0 addr) o)
      (All (λ (u : SymbolEntry). addr < u.addr) symbols) (IsFound symbols 0 addr)) is
      (found_by_place symbols 0 addr)

  below_same : (t : SymbolEntry) → symbol_below symbols addr ≡ Some t
      → (s.addr ≤ t.addr) ⊎ (addr < s.addr) → symbol_below more addr ≡ Some t
  below_same t is keeps =
      let at = found_at t is in
      let inside : at.place < length symbols = slice_get_within symbols at.place t at.listed in
      let here : get_or more at.place s ≡ t =
      at_front at.place t inside (get_or_from_slice_get symbols at.place t s at.listed) in
      let near : All (λ (u : SymbolEntry). (u.addr ≤ t.addr) ⊎ (addr < u.addr)) more = All-push
      (λ (u : SymbolEntry). (u.addr ≤ t.addr) ⊎ (addr < u.addr)) symbols s at.nearest keeps in
      below_found more addr at.place s (omega (arith, inside, length-append symbols (s ∷ [])))
      (rw here at.below) (rw here near)
      (λ k less. rw (here, at_front k (get_or symbols k s) (omega arith) refl) (at.first k s less))
      ∙ ap Some here

  pub below_more : symbol_below (symbols ++ s ∷ []) addr
      ≡ cond (nat_le s.addr addr && option_map_or (λ t. nat_lt t.addr s.addr)
      (symbol_below symbols addr) true) (Some s) (symbol_below symbols addr)
  below_more = by (symbol_below symbols addr) refl
    where
      by : (o : Option SymbolEntry) → symbol_below symbols addr ≡ o
          → symbol_below more addr ≡ cond (nat_le s.addr addr
          && option_map_or (λ (t : SymbolEntry). nat_lt t.addr s.addr) o true) (Some s) o
      by None none =
          let over = all_above symbols addr none in
          let last : s.addr ≤ addr → symbol_below more addr ≡ Some s =
          λ low. below_last low (λ k d lt. inr (over k d lt)) in
          let past : addr < s.addr → symbol_below more addr ≡ None = λ gt. below_none more addr
          (All-push (λ (t : SymbolEntry). addr < t.addr) symbols s over gt) in
          grind (arith, nat_tests, cases_lt addr s.addr, last, past)
      by (Some t) is =
          let near = (found_at t is).nearest in
          let last : s.addr ≤ addr → t.addr < s.addr → symbol_below more addr ≡ Some s =
          λ low less. below_last low
          (λ k d lt. ⊎_elim (λ le. inl (omega arith)) (λ past. inr past) (near k d lt)) in
          let same = below_same t is in
          grind (arith, nat_tests, cases_lt addr s.addr, cases_lt t.addr s.addr, last, same)

  -- ---- the address above

  above_last : addr < s.addr → All (λ t. (t.addr ≤ addr) ⊎ (s.addr ≤ t.addr)) symbols
      → address_above more addr ≡ Some s.addr
  above_last high others =
      grind (arith, common_steps, nat_tests, All-push, above_found, at_end, length-append)

  clear_of : (t : SymbolEntry) → find (is_next symbols addr) symbols ≡ Some t
      → All (λ u. (u.addr ≤ addr) ⊎ (t.addr ≤ u.addr)) symbols
  clear_of t is = λ k d lt. least_above_cases (get_or symbols k d).addr t.addr addr
      ((next_parts symbols addr t (find-passes (is_next symbols addr) symbols t is)).1 k d lt)

  above_same : (t : SymbolEntry) → find (is_next symbols addr) symbols ≡ Some t
      → (s.addr ≤ addr) ⊎ (t.addr ≤ s.addr) → address_above more addr ≡ Some t.addr
  above_same t is keeps =
      let (place, first) = find_place (is_next symbols addr) symbols t is in
      let inside : place < length symbols = slice_get_within symbols place t first.at in
      let here : get_or more place s ≡ t =
      at_front place t inside (get_or_from_slice_get symbols place t s first.at) in
      let high : addr < t.addr =
      (next_parts symbols addr t (find-passes (is_next symbols addr) symbols t is)).0 in
      let near : All (λ (u : SymbolEntry). (u.addr ≤ addr) ⊎ (t.addr ≤ u.addr)) more =
      All-push (λ (u : SymbolEntry). (u.addr ≤ addr) ⊎ (t.addr ≤ u.addr)) symbols s
      (clear_of t is) keeps in
      above_found more addr place s (omega (arith, inside, length-append symbols (s ∷ [])))
      (rw here high) (rw here near) ∙ ap (λ (u : SymbolEntry). Some u.addr) here

  pub above_more : address_above (symbols ++ s ∷ []) addr ≡ cond
      (nat_lt addr s.addr && option_map_or (λ a. nat_lt s.addr a) (address_above symbols addr) true)
      (Some s.addr) (address_above symbols addr)
  above_more = by (find (is_next symbols addr) symbols) refl
    where
      by : (o : Option SymbolEntry) → find (is_next symbols addr) symbols ≡ o
          → address_above more addr ≡ cond (nat_lt addr s.addr && option_map_or
          (λ (a : ℕ). nat_lt s.addr a) (option_map (λ (t : SymbolEntry). t.addr) o) true)
          (Some s.addr) (option_map (λ (t : SymbolEntry). t.addr) o)
      by None none =
          let under = none_over symbols addr none in
          let last : addr < s.addr → address_above more addr ≡ Some s.addr =
          λ high. above_last high (λ k d lt. inl (under k d lt)) in
          let past : s.addr ≤ addr → address_above more addr ≡ None = λ low. above_none more addr
          (All-push (λ (t : SymbolEntry). t.addr ≤ addr) symbols s under low) in
          grind (arith, nat_tests, cases_lt addr s.addr, last, past)
      by (Some t) is =
          let clear = clear_of t is in
          let last : addr < s.addr → s.addr < t.addr → address_above more addr ≡ Some s.addr =
          λ high less. above_last high
          (λ k d lt. ⊎_elim (λ le. inl le) (λ past. inr (omega arith)) (clear k d lt)) in
          let same = above_same t is in
          grind (arith, nat_tests, cases_lt addr s.addr, cases_lt s.addr t.addr, last, same)

pub ruleset one_more_below = (common_steps, nat_tests, below_more)

pub ruleset one_more_above = (common_steps, nat_tests, above_more)
