-- A stable sort by address leaves the nearest mark.
use Rattle.modules.proofs.Words.{◌≡◌, ℕ, Bool, ◌&&◌, nat_eq, List, get_or, Some, sym, ◌∙◌, arith}
use Rattle.modules.proofs.Words.{All, filter, find, IsPermutation, IsStableByKey, ties, is_lt}
use Rattle.modules.proofs.Words.{nat_cmp, rules, nat_tests}
use Rattle.modules.proofs.Lemmas.{eq-eqb, eqb-false, ne_eqb, All-contains, filter_agree}
use Rattle.modules.proofs.Lemmas.{Contains-permutation, IsPermutation-sym, get_or_default}
use Rattle.modules.proofs.Lemmas.{get_or_from_slice_get, slice_get_within, find-first, find_place}
use Rattle.modules.proofs.Lemmas.{find-filter, find-agree}
use Rattle.modules.proofs.Definitions.{Item, AreRegions, GoesOn, IsFirstMark, IsNearestMark, Owns}
use Rattle.modules.proofs.Definitions.{Mark}

-- the mark is of the address
abbrev pub is_at : ℕ → Mark → Bool
is_at addr s = nat_eq s.addr addr

as_ties : (l s : Mark) → ties (λ (x y : Mark). is_lt (nat_cmp x.addr y.addr)) l s ≡ is_at l.addr s
as_ties l s = grind (arith, nat_tests)

find_in_filter : (p : Mark → Bool) (xs ys : List Mark) → filter p xs ≡ filter p ys
    → find p xs ≡ find p ys
find_in_filter p xs ys same =
    grind (arith, find-filter p p xs, find-filter p p ys, find-agree (λ x. p x && p x) p)

-- the first listed of its address
pub found_first : (xs : List Mark) (l : Mark) → IsFirstMark xs l → find (is_at l.addr) xs ≡ Some l
found_first xs l n = grind (arith, find-first, eq-eqb, ne_eqb)

pub first_found : (xs : List Mark) (l : Mark) → find (is_at l.addr) xs ≡ Some l → IsFirstMark xs l
first_found xs l found =
    grind (arith, find_place, slice_get_within, get_or_from_slice_get, eqb-false)

module _ (xs ys : List Mark) (moved : IsPermutation xs ys)
    (stable : IsStableByKey (λ (s : Mark). s.addr) nat_cmp xs ys) where
  first_moved : (l : Mark) → IsFirstMark ys l → IsFirstMark xs l
  first_moved l n =
      let same : filter (is_at l.addr) ys ≡ filter (is_at l.addr) xs =
      sym (filter_agree (ties (λ (a b : Mark). is_lt (nat_cmp a.addr b.addr)) l) (is_at l.addr)
      (as_ties l) ys) ∙ stable l ∙ filter_agree
      (ties (λ (a b : Mark). is_lt (nat_cmp a.addr b.addr)) l) (is_at l.addr) (as_ties l) xs in
      first_found xs l (find_in_filter (is_at l.addr) xs ys (sym same) ∙ found_first ys l n)

  all_moved : (P : Mark → Type 0) → All P ys → All P xs
  all_moved P all = λ k d lt. All-contains P ys (get_or xs k d) all (Contains-permutation xs ys
      (get_or xs k d) moved (k, lt, get_or_default xs k (get_or xs k d) d lt))

  nearest_moved : (x : ℕ) (l : Mark) → IsNearestMark ys x l → IsNearestMark xs x l
  nearest_moved x l n = search (rules, first_moved, all_moved)

  goes_on_moved : (x : ℕ) (l : Mark) → GoesOn ys x l → GoesOn xs x l
  goes_on_moved x l on = search (rules, first_moved, all_moved)

  owns_moved : (m x : ℕ) → Owns ys m x → Owns xs m x
  owns_moved m x o = grind (arith, nearest_moved x o.mark o.nearest, goes_on_moved x o.mark)

-- the regions of the sorted marks are those of the marks
pub regions_moved : (xs ys : List Mark) (items : List Item) → IsPermutation xs ys
    → IsStableByKey (λ (s : Mark). s.addr) nat_cmp xs ys → AreRegions ys items → AreRegions xs items
regions_moved xs ys items moved stable r = record {
  laid = r.laid;
  exact = λ m x. (
    λ h. let (lt, o) = (r.exact m x).0 h in (lt, owns_moved xs ys moved stable m x o),
    λ (lt, o). (r.exact m x).1
        (lt, owns_moved ys xs (IsPermutation-sym xs ys moved) (λ l. sym (stable l)) m x o),
  );
}
