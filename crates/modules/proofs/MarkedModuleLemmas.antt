-- Regions by the numbers of their modules.
use Rattle.modules.proofs.Words.{◌≡◌, ℕ, ◌<◌, ◌≤◌, true, false, cond, nat_eq, List, [], ◌∷◌, map}
use Rattle.modules.proofs.Words.{refl, arith, All, Contains, filter, AllPairs}
use Rattle.modules.proofs.Lemmas.{cases_lt, or_cases, or_left, or_right, eqb-true, eq-eqb, All-head}
use Rattle.modules.proofs.Lemmas.{All-tail, All-cons, All-filter, All-map, All-nil, AllPairs-cons}
use Rattle.modules.proofs.Lemmas.{Contains-cons_cases, Contains-head, Contains-rest}
use Rattle.modules.proofs.Definitions.{Item, ListedSymbol, holds, Follows, HoldsFor, AreRegions}
use Rattle.modules.proofs.Definitions.{Mark, ranges_of, numbered_module, StandsFor, HasItsRegions}
use Rattle.modules.proofs.SpacedLemmas.{lies, inside, pairs_first, pairs_rest, within, Range}

module _ (n : ℕ) where
  pub valid_ranges : (items : List Item) → All (λ i. i.a < i.b) items
      → All (λ (r : Range). r.0 < r.1) (ranges_of n items)
  valid_ranges items all = All-map (λ (r : Range). r.0 < r.1) (λ (i : Item). (i.a, i.b))
      (filter (λ (i : Item). nat_eq i.tag n) items)
      (All-filter (λ (i : Item). nat_eq i.tag n) (λ (i : Item). i.a < i.b) items all)

  past : (i : Item) (is : List Item) → i.tag ≡ n → All (Follows i) is
      → All (λ (r : Range). i.b < r.0) (ranges_of n is)
  past i [] its all = All-nil (λ (r : Range). i.b < r.0)
  past i (j ∷ js) its all = grind (
    arith,
    All-cons,
    All-head,
    eqb-true,
    cases_lt,
    All-tail,
    past i js its (All-tail (Follows i) j js all),
  )

  pub spaced : (items : List Item) → AllPairs (λ i j. Follows i j) items
      → AllPairs (λ (r s : Range). r.1 < s.0) (ranges_of n items)
  spaced [] pairs = λ i j d less lt. absurd (omega arith)
  spaced (i ∷ is) pairs =
      elim (nat_eq i.tag n) as (λ b. nat_eq i.tag n ≡ b
      → AllPairs (λ (r s : Range). r.1 < s.0) (map (λ (x : Item). (x.a, x.b))
      (cond b (i ∷ filter (λ x. nat_eq x.tag n) is) (filter (λ x. nat_eq x.tag n) is)))) [
        | true ↦ λ e. AllPairs-cons (λ (r s : Range). r.1 < s.0) (i.a, i.b) (ranges_of n is)
            (past i is (eqb-true i.tag n e) (pairs_first (λ i j. Follows i j) i is pairs))
            (spaced is (pairs_rest (λ i j. Follows i j) i is pairs))
        | false ↦ λ _. spaced is (pairs_rest (λ i j. Follows i j) i is pairs)
      ] refl

  to_holds : (items : List Item) (x : ℕ) → lies (ranges_of n items) x ≡ true → HoldsFor items n x
  to_holds [] x h = absurd (cc)
  to_holds (i ∷ is) x h = grind (
    arith,
    or_cases (holds (i.a, i.b) x),
    inside (i.a, i.b) x,
    Contains-head i i is,
    Contains-rest i,
    eqb-true i.tag n,
    to_holds is x,
  )

  pub from_holds : (items : List Item) (x : ℕ) (i : Item) → Contains items i → i.tag ≡ n → i.a ≤ x
      → x < i.b → lies (ranges_of n items) x ≡ true
  from_holds [] x i there its from below = absurd (omega (arith, there.1))
  from_holds (j ∷ js) x i there its from below =
      grind (arith, or_left, within, or_right, Contains-cons_cases, eq-eqb, from_holds js x i)

pub its_regions : (marks : List Mark) (items : List Item) (lines : List ListedSymbol) (n : ℕ)
    (name : List ℕ) → AreRegions marks items → StandsFor marks lines n name
    → HasItsRegions lines (numbered_module n name items)
its_regions marks items lines n name r stands = record {
  valid = valid_ranges n items r.laid.valid;
  longest = spaced n items r.laid.follow;
  exact = λ x. (
    λ h. let (lt, owns) = (r.exact n x).0 (to_holds n items x h) in (lt, (stands x lt).0 owns),
    λ (lt, is). let h = (r.exact n x).1 (lt, (stands x lt).1 is) in
        from_holds n items x h.item h.there h.its h.from h.below,
  );
  parts = refl;
}
