-- Where items stand in a table.
use Rattle.order_laws.proofs.Words.{◌≡◌, ℕ, suc, ◌≤◌, true, false, cond, List, [], ◌∷◌, length}
use Rattle.order_laws.proofs.Words.{refl, ap, arith, not, ◌||◌, ◌==◌, insert, remove}
use Rattle.order_laws.proofs.Words.{AllByRecursion, eqb-true, ne_eqb, Item, Order, Precedes}
use Rattle.order_laws.proofs.Words.{IsLawful, IsTable, with_item, without, without_all, place_for}
use Rattle.order_laws.proofs.Words.{place_of, has}
use Rattle.facts.proofs.Numbers.{eqb-flip}
use Rattle.std.proofs.lemmas.Bool.Decides.{nat_tests}

-- a table with one item more has it at its place
pub with_place : {K : Type 0} (o : Order K) (i : Item) (xs : List Item)
    → with_item o i xs ≡ insert xs (place_for o i xs) i
with_place o i [] = refl
with_place o i (x ∷ xs) = grind (arith, nat_tests, with_place o i xs)

pub place_for_fits : {K : Type 0} (o : Order K) (i : Item) (xs : List Item)
    → place_for o i xs ≤ length xs
place_for_fits o i [] = omega arith
place_for_fits o i (x ∷ xs) = grind (arith, nat_tests, place_for_fits o i xs)

-- an item that no other has the first word of
kept_all : {K : Type 0} (o : Order K) (law : IsLawful o) (a : ℕ) (x : Item) (xs : List Item)
    → x.a ≡ a → AllByRecursion (Precedes o x) xs → without a xs ≡ xs
kept_all o law a x [] e h = refl
kept_all o law a x (y ∷ xs) e h = grind (arith, nat_tests, kept_all o law a x xs e h.1, ne_eqb)

-- a table without the item of a first word lacks what stood at its place
pub without_place : {K : Type 0} (o : Order K) → IsLawful o → (a : ℕ) (xs : List Item)
    → IsTable o xs → has a xs ≡ true → without a xs ≡ remove xs (place_of a xs)
without_place o law a [] t h = absurd (cc)
without_place o law a (x ∷ xs) t h =
    elim (x.a == a) as (λ b. (x.a == a) ≡ b → (b || has a xs) ≡ true → cond (not b)
    (x ∷ without a xs) (without a xs) ≡ remove (x ∷ xs) (cond b 0 (suc (place_of a xs)))) [
      | true ↦ λ e f. kept_all o law a x xs (eqb-true x.a a e) t.1
      | false ↦ λ e f. ap (λ ys. x ∷ ys) (without_place o law a xs t.2 f)
    ] refl h

-- without no item, and without one
pub without_none : (xs : List Item) → without_all [] xs ≡ xs
without_none [] = refl
without_none (x ∷ xs) = ap (λ ys. x ∷ ys) (without_none xs)

pub without_one : (a : ℕ) (xs : List Item) → without_all (a ∷ []) xs ≡ without a xs
without_one a [] = refl
without_one a (x ∷ xs) = grind (arith, nat_tests, without_one a xs, eqb-flip)
