-- Symbols at one address.
use Rattle.modules.proofs.Words.{◌≡◌, ◌∙◌, ℕ, zero, suc, ◌+◌, ◌-◌, ◌<◌, ◌≤◌, Bool, true, false}
use Rattle.modules.proofs.Words.{◌&&◌, ◌||◌, nat_eq, List, [], ◌∷◌, length, get_or, take, drop, map}
use Rattle.modules.proofs.Words.{refl, sym, ap, subst, arith, Some, All, MatchOption, ⊎_elim}
use Rattle.modules.proofs.Words.{list_any, enumerate_from, bytes_eq}
use Rattle.std.proofs.lemmas.List.Sorted.{list_any-IsPermutation}
use Rattle.std.proofs.lemmas.Map.Views.{any-filter_same}
use Rattle.std.proofs.lemmas.Slice.Eq.{bytes_eq-Decides}
use Rattle.std.proofs.lemmas.List.{get_or-drop, length-drop}
use Rattle.modules.specs.AtAddress.{lists_symbol}
use Rattle.modules.proofs.Lemmas.{Contains-slice_get, and_parts, cases_lt, eq-eqb, eqb-true}
use Rattle.modules.proofs.Lemmas.{false_from_ne_true, filter_passes, list_any_at}
use Rattle.modules.proofs.ByNameLemmas.{any_mapped}
use Rattle.modules.proofs.Definitions.{Found, IndexEntry, IsFirstOf, IsFound, IsOrdered, IsSplitBy}
use Rattle.modules.proofs.Definitions.{SymbolEntry, found_in, holds, index_entries_of}
use Rattle.modules.proofs.Definitions.{symbol_of_entry, symbols_from}
use Rattle.modules.proofs.FindLemmas.{found_by_place}

-- elements that fail a test before a place
any_past : {X : Type 0} (p : X → Bool) (xs : List X) (n : ℕ)
    → ((k : ℕ) (d : X) → k < n → p (get_or xs k d) ≡ false) → list_any p xs ≡ list_any p (drop n xs)
any_past p xs zero fail = refl
any_past p [] (suc n) fail = refl
any_past p (x ∷ xs) (suc n) fail =
    ap (λ b. b || list_any p xs) (fail 0 x (omega arith))
    ∙ any_past p xs n (λ k d low. fail (suc k) d (omega (arith, low)))

-- elements that fail it from a place on
any_before : {X : Type 0} (p : X → Bool) (xs : List X) (n : ℕ)
    → ((k : ℕ) (d : X) → n ≤ k → k < length xs → p (get_or xs k d) ≡ false)
    → list_any p xs ≡ list_any p (take n xs)
any_before p [] zero fail = refl
any_before p [] (suc n) fail = refl
any_before p (x ∷ xs) zero fail =
    ap (λ b. b || list_any p xs) (fail 0 x (omega arith) (omega arith))
    ∙ any_before p xs zero (λ k d from low. fail (suc k) d (omega arith) (omega (arith, low)))
any_before p (x ∷ xs) (suc n) fail =
    ap (λ b. p x || b) (any_before p xs n
    (λ k d from low. fail (suc k) d (omega (arith, from)) (omega (arith, low))))

-- ---- symbols by rising address

module _ (symbols : List SymbolEntry) (addr first end : ℕ) (is : IsFirstOf symbols addr first)
    (parts : IsSplitBy (λ (s : SymbolEntry). s.addr) symbols addr end) where
  pub first_not_past : first ≤ end
  first_not_past =
      let none : SymbolEntry = record { addr = 0; letter = 0; name = [] } in
      let bound : first ≤ length symbols = is.bound in
      ⊎_elim
      (λ (lt : end < first). absurd
      (omega (arith, is.below end none lt, parts.above end none (omega arith) (omega arith))))
      (λ (le : first ≤ end). le)
      (cases_lt end first)

  below : (name : List ℕ) (s : SymbolEntry) → s.addr < addr
      → (nat_eq s.addr addr && bytes_eq s.name name) ≡ false
  below name s lt = ap (λ b. b && bytes_eq s.name name) (false_from_ne_true (nat_eq s.addr addr)
      (λ yes. absurd (omega (arith, eqb-true s.addr addr yes))))

  above : (name : List ℕ) (s : SymbolEntry) → addr < s.addr
      → (nat_eq s.addr addr && bytes_eq s.name name) ≡ false
  above name s gt = ap (λ b. b && bytes_eq s.name name) (false_from_ne_true (nat_eq s.addr addr)
      (λ yes. absurd (omega (arith, eqb-true s.addr addr yes))))

  pub listed_within : (name : List ℕ) → lists_symbol symbols addr name
      ≡ lists_symbol (take (end - first) (drop first symbols)) addr name
  listed_within name =
      let test : SymbolEntry → Bool = λ s. nat_eq s.addr addr && bytes_eq s.name name in
      let rest : List SymbolEntry = drop first symbols in
      let bound : end ≤ length symbols = parts.bound in
      let left : length rest ≡ length symbols - first = length-drop first symbols in
      any_past test symbols first (λ k d lt. below name (get_or symbols k d) (is.below k d lt))
      ∙ any_before test rest (end - first) (λ k d from lt.
      ap test (get_or-drop first symbols k d)
      ∙ above name (get_or symbols (first + k) d)
      (parts.above (first + k) d (omega (arith, from)) (omega (arith, left, lt))))

-- where they begin and end
pub ruleset within_range = (first_not_past, listed_within)

-- ---- copies of symbols in order

copied : (p : SymbolEntry → Bool) (all rest : List SymbolEntry) (n : ℕ)
    → ((j : ℕ) (d : SymbolEntry) → j < length rest → get_or all (n + j) d ≡ get_or rest j d)
    → list_any (λ e. p (symbol_of_entry all e))
    (map (λ (e : ℕ × SymbolEntry). record { addr = e.1.addr; place = e.0 }) (enumerate_from n rest))
    ≡ list_any p rest
copied p all [] n same = refl
copied p all (s ∷ rest) n same =
    let here : get_or all n (record { addr = s.addr; letter = 0; name = [] }) ≡ s =
    ap (λ k. get_or all k (record { addr = s.addr; letter = 0; name = [] })) (omega arith)
    ∙ same 0 (record { addr = s.addr; letter = 0; name = [] }) (omega arith) in
    ap (λ t. p t || list_any (λ e. p (symbol_of_entry all e)) (map (λ (e : ℕ × SymbolEntry).
    record { addr = e.1.addr; place = e.0 }) (enumerate_from (n + 1) rest))) here
    ∙ ap (λ b. p s || b) (copied p all rest (n + 1)
    (λ j d lt. ap (λ k. get_or all k d) (omega arith) ∙ same (suc j) d (omega (arith, lt))))

-- they are the same symbols
pub listed_in_order : (symbols ordered : List SymbolEntry) (addr : ℕ) (name : List ℕ)
    → IsOrdered symbols ordered → lists_symbol ordered addr name ≡ lists_symbol symbols addr name
listed_in_order symbols ordered addr name is =
    let test : SymbolEntry → Bool = λ s. nat_eq s.addr addr && bytes_eq s.name name in
    let of_entry : IndexEntry → Bool = λ e. test (symbol_of_entry symbols e) in
    ap (list_any test) is.each
    ∙ any_mapped test (symbol_of_entry symbols) is.index
    ∙ sym (list_any-IsPermutation of_entry (index_entries_of symbols) is.index is.is.listed)
    ∙ copied test symbols symbols 0 (λ j d lt. ap (λ k. get_or symbols k d) (omega arith))

-- ---- the symbol that is found

itself : (s : SymbolEntry) → (nat_eq s.addr s.addr && bytes_eq s.name s.name) ≡ true
itself s = ap (λ b. b && bytes_eq s.name s.name) (eq-eqb s.addr s.addr refl)
    ∙ (bytes_eq-Decides s.name s.name).1 refl

-- it is among the symbols of its module
pub found_is_listed : (symbols : List SymbolEntry) (start end addr : ℕ) (f : Found)
    → found_in (symbols_from symbols start end) end addr ≡ Some f
    → lists_symbol symbols f.symbol.addr f.symbol.name ≡ true
found_is_listed symbols start end addr f is =
    let own = symbols_from symbols start end in
    let s = f.symbol in
    let test : SymbolEntry → Bool = λ t. nat_eq t.addr s.addr && bytes_eq t.name s.name in
    let inside : SymbolEntry → Bool = λ t. holds (start, end) t.addr in
    let found : IsFound own end addr f =
    subst (λ o. MatchOption o (All (λ s. addr < s.addr) own) (IsFound own end addr)) is
    (found_by_place own end addr) in
    let (k, within, at) = Contains-slice_get own found.place s found.listed in
    let here : list_any test own ≡ true = list_any_at test own k s within
    (subst (λ (x : SymbolEntry). test x ≡ true) (sym at) (itself s)) in
    let passes : inside s ≡ true =
    subst (λ (x : SymbolEntry). inside x ≡ true) at (filter_passes inside symbols k s within) in
    sym (any-filter_same test inside true
    (λ t same. subst (λ (a : ℕ). holds (start, end) a ≡ true) (sym (eqb-true t.addr s.addr
    (and_parts (nat_eq t.addr s.addr) (bytes_eq t.name s.name) same).0)) passes) symbols)
    ∙ here
