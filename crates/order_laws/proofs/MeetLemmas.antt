-- What it says of a table that an item meets none of its items.
use Rattle.order_laws.proofs.Words.{◌∙◌, ◌∷◌, ◌≡◌, List, [], ap, false, get_or, refl, true, ◌||◌}
use Rattle.order_laws.proofs.Words.{Contains, not, AllByRecursion, Order, half_open, meets, Item, ℕ}
use Rattle.order_laws.proofs.Words.{◌++◌, ◌==◌, ◌&&◌, list_any, without_all}
use Rattle.std.proofs.lemmas.List.Elements.{Contains-get_or}
use Rattle.std.proofs.lemmas.List.Folds.{list_any_none}
use Rattle.std.proofs.Common.{Bool}
use Rattle.std.proofs.Math.Bool.{or-true}
use Rattle.facts.proofs.Bools.{or_assoc, or_swap}
use Rattle.std.proofs.Common.{arith}
use Rattle.std.proofs.lemmas.Bool.Decides.{nat_tests}

-- an item that meets none is apart from each
pub not_meeting : {K : Type 0} (o : Order K) (i : Item) (xs : List Item) → meets o i xs ≡ false
    → AllByRecursion (λ x. o.apart x i ≡ true) xs
not_meeting o i [] e = tt
not_meeting o i (x ∷ xs) e =
    elim (o.apart x i) as (λ b. o.apart x i ≡ b → (not b || meets o i xs) ≡ false
    → AllByRecursion (λ y. o.apart y i ≡ true) (x ∷ xs)) [
      | true ↦ λ is f. (is, not_meeting o i xs f)
      | false ↦ λ is f. absurd (cc)
    ] refl e

pub no_meeting : {K : Type 0} (o : Order K) (i : Item) (table : List Item)
    → AllByRecursion (λ x. o.apart x i ≡ true) table → meets o i table ≡ false
no_meeting o i [] h = refl
no_meeting o i (x ∷ xs) h = ap (λ b. not b || meets o i xs) h.0 ∙ no_meeting o i xs h.1

pub none_meets : (i : Item) (table : List Item)
    → ((x : Item) → Contains table x → half_open.apart x i ≡ true) → meets half_open i table ≡ false
none_meets i table h =
    list_any_none (λ x. not (half_open.apart x i)) table
    (λ k d lt. ap not (h (get_or table k d) (Contains-get_or table k d lt)))

-- an item against a table without some first words
module _ {K : Type 0} (o : Order K) (i : Item) (but : List ℕ) where
  abbrev Meets : List Item → Bool
  Meets js = meets o i (without_all but js)

  abbrev gone : Item → Bool
  gone z = list_any (λ a. a == z.a) but

  pub meets_split : (is js : List Item) → Meets (is ++ js) ≡ (Meets is || Meets js)
  meets_split [] js = refl
  meets_split (z ∷ is) js = grind (arith, nat_tests, meets_split is js, or_assoc)

  pub meets_none : (js : List Item) → AllByRecursion (λ z. o.apart z i ≡ true) js → Meets js ≡ false
  meets_none [] h = refl
  meets_none (z ∷ js) h = grind (arith, nat_tests, meets_none js h.1)

  pub apart_head : (z : Item) (js : List Item) → o.apart z i ≡ true → Meets (z ∷ js) ≡ Meets js
  apart_head z js e = grind (arith, nat_tests)

  pub any_head : (z : Item) (is js : List Item)
      → ((not (gone z) && not (o.apart z i)) || (Meets is || Meets js))
      ≡ (Meets is || Meets (z ∷ js))
  any_head z is js = grind (arith, nat_tests, or_swap)

  pub meeting_head : (z : Item) (is js : List Item) → o.apart z i ≡ false
      → (not (gone z) || (Meets is || Meets js)) ≡ (Meets is || Meets (z ∷ js))
  meeting_head z is js e = grind (arith, nat_tests, or-true)
