-- Entries of a batch that stand against each other are neighbours in a sorted list.
use Rattle.latch_core.proofs.Words.{◌≡◌, ◌≢◌, ℕ, suc, zero, ◌+◌, ◌<◌, ◌≤◌, true, false, List, []}
use Rattle.latch_core.proofs.Words.{◌∷◌, length, drop, get_or, refl, sym, ◌∙◌, ap, subst, arith}
use Rattle.latch_core.proofs.Words.{Bool, not, ◌||◌, ◌==◌, AllByRecursion, list_any, IsPermutation}
use Rattle.latch_core.proofs.Words.{IsNonDecreasingBy, ne_eqb, or_parts, IsPermutation-sym}
use Rattle.latch_core.proofs.Words.{IsNonDecreasingBy-drop, list_any-IsPermutation}
use Rattle.latch_core.proofs.Words.{IsDistinct-IsPermutation, drop_more, Item, Order, IsLawful}
use Rattle.latch_core.proofs.Words.{IsInLine, meets, same_by_false, all_drop, all_not_below}
use Rattle.latch_core.proofs.Words.{all_weaker, rest_in_order, all_fail, list_any-all_fail}
use Rattle.latch_core.proofs.Words.{eqb-flip, no_meeting, Batch, failed_test, some_twice}
use Rattle.latch_core.proofs.Words.{some_overlap, all_apart, nat_tests}
use Rattle.std.specs.List.{IsDistinct}
use Rattle.std.proofs.Common.{◌-◌}
use Rattle.order_laws.proofs.LeftOutLemmas.{without_moved}
use Rattle.order_laws.proofs.InLineLemmas.{precedes, beyond}

-- some entry clashes with one after it
abbrev clash : {X : Type 0} → (X → X → Bool) → List X → Bool
clash e [] = false
clash e (x ∷ rest) = list_any (e x) rest || clash e rest

clash_distinct : {X : Type 0} (e : X → X → Bool) (xs : List X) → clash e xs ≡ false
    → IsDistinct e xs
unfolding IsDistinct
clash_distinct e [] h = tt
clash_distinct e (x ∷ rest) h = let two = or_parts (list_any (e x) rest) (clash e rest) h in
    (all_fail (e x) rest two.0, clash_distinct e rest two.1)

distinct_clash : {X : Type 0} (e : X → X → Bool) (xs : List X) → IsDistinct e xs
    → clash e xs ≡ false
unfolding IsDistinct
distinct_clash e [] h = refl
distinct_clash e (x ∷ rest) h =
    ap (λ b. b || clash e rest) (list_any-all_fail (e x) rest h.0) ∙ distinct_clash e rest h.1

clash_moved : {X : Type 0} (e : X → X → Bool) → ((x y : X) → e x y ≡ e y x) → (xs ys : List X)
    → IsPermutation xs ys → clash e xs ≡ clash e ys
clash_moved e flips xs ys p =
    same_by_false (clash e xs) (clash e ys)
    (λ h. distinct_clash e ys (IsDistinct-IsPermutation e flips xs ys p (clash_distinct e xs h)))
    (λ h. distinct_clash e xs (IsDistinct-IsPermutation e flips ys xs (IsPermutation-sym xs ys p)
    (clash_distinct e ys h)))

twice_clash : (xs : List ℕ) → some_twice xs ≡ clash (λ a b. b == a) xs
twice_clash [] = refl
twice_clash (a ∷ rest) = ap (λ r. list_any (λ b. b == a) rest || r) (twice_clash rest)

overlap_clash : {K : Type 0} (o : Order K) (xs : List Item)
    → some_overlap o xs ≡ clash (λ i x. not (o.apart x i)) xs
overlap_clash o [] = refl
overlap_clash o (i ∷ rest) = ap (λ r. meets o i rest || r) (overlap_clash o rest)

-- in another order of the list they clash alike
pub twice_moved : (xs ys : List ℕ) → IsPermutation xs ys → some_twice xs ≡ some_twice ys
twice_moved xs ys p = twice_clash xs ∙ clash_moved (λ a b. b == a) (λ a b. eqb-flip b a) xs ys p
    ∙ sym (twice_clash ys)

-- and the tests of a batch go by its first words in any order
pub tests_moved : {K : Type 0} (o : Order K) (n : ℕ) (table : List Item) (words words' : List ℕ)
    (insert : List Item) → IsPermutation words words'
    → failed_test o n table (Batch words insert) ≡ failed_test o n table (Batch words' insert)
tests_moved o n table words words' insert p =
    grind (arith, nat_tests, list_any-IsPermutation, twice_moved, without_moved)

pub overlap_moved : {K : Type 0} (o : Order K) → IsLawful o → (xs ys : List Item)
    → IsPermutation xs ys → some_overlap o xs ≡ some_overlap o ys
overlap_moved o law xs ys p = grind (arith, nat_tests, overlap_clash, clash_moved)

-- a number that is not its neighbour stands nowhere after it
pub twice_next : (x y : ℕ) (rest : List ℕ) → IsNonDecreasingBy (λ a. a) (x ∷ y ∷ rest) → y ≢ x
    → some_twice (x ∷ y ∷ rest) ≡ some_twice (y ∷ rest)
twice_next x y rest sorted ne =
    let front = all_not_below (λ a. a) x (y ∷ rest) sorted in
    let behind = all_not_below (λ a. a) y rest (rest_in_order (λ a. a) x (y ∷ rest) sorted) in
    let le : x ≤ y = front.0 in
    let none = list_any-all_fail (λ b. b == x) (y ∷ rest) (
      ne_eqb y x ne,
      all_weaker (λ b. y ≤ b) (λ b. (b == x) ≡ false)
          (λ b l. ne_eqb b x (λ e. absurd (ne (let up : y ≤ b = l in omega (arith, le, up, e)))))
          rest behind,
    ) in
    ap (λ b. b || some_twice (y ∷ rest)) none

-- an item that is apart from its neighbour is apart from all after it, where these are
module _ {K : Type 0} (o : Order K) (law : IsLawful o) (line : IsInLine o) where
  pub overlap_next : (x y : Item) (rest : List Item)
      → AllByRecursion (λ i. o.valid i ≡ true) (x ∷ y ∷ rest)
      → IsNonDecreasingBy (λ (i : Item). i.a) (x ∷ y ∷ rest) → o.apart y x ≡ true
      → some_overlap o (x ∷ y ∷ rest) ≡ some_overlap o (y ∷ rest)
  overlap_next x y rest valid sorted apart =
      let front = all_not_below (λ (i : Item). i.a) x (y ∷ rest) sorted in
      let behind = all_not_below (λ (i : Item). i.a) y rest
      (rest_in_order (λ (i : Item). i.a) x (y ∷ rest) sorted) in
      elim (some_overlap o (y ∷ rest)) as (λ b. some_overlap o (y ∷ rest) ≡ b
      → (meets o x (y ∷ rest) || b) ≡ b) [
        | true ↦ λ e. (elim
            (meets o x (y ∷ rest)) as (λ b. (b || true) ≡ true) [ true ↦ refl | false ↦ refl ])
        | false ↦ λ e.
            let all = all_apart o (y ∷ rest) e in
            let p = precedes o law line x y valid.0 valid.1.0 (law.symmetric x y ∙ apart) front.0 in
            ap (λ b. b || false) (no_meeting o x (y ∷ rest)
            (apart, beyond o law line x y rest p valid.1.0 valid.1.1 behind all.0))
      ] refl

-- one place further in a list, whose elements there are two neighbours
neighbours : {X : Type 0} (xs : List X) (p : ℕ) (d : X) → 1 ≤ p → p < length xs
    → drop (p - 1) xs ≡ get_or xs (p - 1) d ∷ get_or xs p d ∷ drop (p + 1) xs
neighbours xs p d some lt = grind (arith, nat_tests, drop_more)

pub one_place_on : {X : Type 0} (test : List X → Bool) (xs : List X) (p : ℕ) (d : X) → 1 ≤ p
    → p < length xs → test (get_or xs (p - 1) d ∷ get_or xs p d ∷ drop (p + 1) xs)
    ≡ test (get_or xs p d ∷ drop (p + 1) xs)
    → test (drop (p - 1) xs) ≡ test xs → test (drop (p + 1 - 1) xs) ≡ test xs
one_place_on test xs p d some lt on same = grind (arith, nat_tests, drop_more, neighbours)

pub twice_on : (words : List ℕ) (p : ℕ) → 1 ≤ p → p < length words
    → IsNonDecreasingBy (λ a. a) words → get_or words p 0 ≢ get_or words (p - 1) 0
    → some_twice (drop (p - 1) words) ≡ some_twice words
    → some_twice (drop (p + 1 - 1) words) ≡ some_twice words
twice_on words p some lt sorted ne same =
    let here = subst (IsNonDecreasingBy (λ a. a)) (neighbours words p 0 some lt)
    (IsNonDecreasingBy-drop (λ a. a) (p - 1) words sorted) in
    one_place_on some_twice words p 0 some lt
    (twice_next (get_or words (p - 1) 0) (get_or words p 0) (drop (p + 1) words) here ne) same

pub overlap_on : {K : Type 0} (o : Order K) → IsLawful o → IsInLine o
    → (items : List Item) (p : ℕ) (d : Item) → 1 ≤ p → p < length items
    → AllByRecursion (λ i. o.valid i ≡ true) items → IsNonDecreasingBy (λ (i : Item). i.a) items
    → o.apart (get_or items p d) (get_or items (p - 1) d) ≡ true
    → some_overlap o (drop (p - 1) items) ≡ some_overlap o items
    → some_overlap o (drop (p + 1 - 1) items) ≡ some_overlap o items
overlap_on o law line items p d some lt valid sorted apart same =
    let pair = neighbours items p d some lt in
    let here = subst (AllByRecursion (λ i. o.valid i ≡ true)) pair
    (all_drop (λ i. o.valid i ≡ true) items (p - 1) valid) in
    let in_order = subst (IsNonDecreasingBy (λ (i : Item). i.a)) pair
    (IsNonDecreasingBy-drop (λ (i : Item). i.a) (p - 1) items sorted) in
    one_place_on (some_overlap o) items p d some lt (overlap_next o law line
    (get_or items (p - 1) d) (get_or items p d) (drop (p + 1) items) here in_order apart) same

-- what a test gives of lists of at most one element it gives where no more are left
pub at_most_one : {X : Type 0} (test : List X → Bool) (b : Bool) → test [] ≡ b
    → ((x : X) → test (x ∷ []) ≡ b) → (xs : List X) (k : ℕ) → length xs ≤ k + 1
    → test (drop k xs) ≡ b
at_most_one test b none one [] zero le = none
at_most_one test b none one [] (suc k) le = none
at_most_one test b none one (x ∷ []) zero le = one x
at_most_one test b none one (x ∷ y ∷ rest) zero le = absurd (omega arith)
at_most_one test b none one (x ∷ rest) (suc k) le =
    at_most_one test b none one rest k (omega (arith, le))
