-- The first words of items: which of them have one, and how they lie in a table.
use Rattle.order_laws.proofs.Words.{◌≡◌, ℕ, false, List, [], ◌∷◌, ◌++◌, refl, sym, ap, subst}
use Rattle.order_laws.proofs.Words.{⊎_elim, arith, ◌==◌, ◌||◌, Contains, AllByRecursion, ne_eqb}
use Rattle.order_laws.proofs.Words.{Item, Order, Precedes, IsLawful, IsTable, has, all_at}
use Rattle.order_laws.proofs.Words.{all_right, Contains-cons_cases}

-- no item has a first word
abbrev pub Lacks : ℕ → List Item → Type 0
Lacks a is = AllByRecursion (λ (z : Item). (z.a == a) ≡ false) is

pub lacks_has : (a : ℕ) (is : List Item) → Lacks a is → has a is ≡ false
lacks_has a [] h = refl
lacks_has a (z ∷ is) h = let e : (z.a == a) ≡ false = h.0 in rw e (lacks_has a is h.1)

pub has_front : (a : ℕ) (is js : List Item) → Lacks a js → has a (is ++ js) ≡ has a is
has_front a [] js h = lacks_has a js h
has_front a (z ∷ is) js h = ap (λ b. (z.a == a) || b) (has_front a is js h)

pub has_back : (a : ℕ) (is js : List Item) → Lacks a is → has a (is ++ js) ≡ has a js
has_back a [] js h = refl
has_back a (z ∷ is) js h = let e : (z.a == a) ≡ false = h.0 in rw e (has_back a is js h.1)

module _ {K : Type 0} (o : Order K) (law : IsLawful o) (i : Item) where
  -- an item of the first part precedes each of the second
  pub across : (xs ys : List Item) → IsTable o (xs ++ ys) → Contains xs i →
      AllByRecursion (Precedes o i) ys
  across [] ys t is = absurd (omega (arith, is.1))
  across (x ∷ xs) ys t is =
      ⊎_elim
      (λ same. subst (λ z. AllByRecursion (Precedes o z) ys) same
      (all_right (Precedes o x) xs ys t.1))
      (λ in_xs. across xs ys t.2 in_xs)
      (Contains-cons_cases x i xs is)

  -- and an item of the second is preceded by each of the first
  pub all_before : (xs ys : List Item) → IsTable o (xs ++ ys) → Contains ys i →
      AllByRecursion (λ z. Precedes o z i) xs
  all_before [] ys t is = tt
  all_before (x ∷ xs) ys t is = (
    all_at (Precedes o x) ys i (all_right (Precedes o x) xs ys t.1) is,
    all_before xs ys t.2 is,
  )

  pub differs : (z : Item) → Precedes o i z → (z.a == i.a) ≡ false
  differs z p = ne_eqb z.a i.a (λ e.
      law.own_first_word i z p.first_valid p.second_valid p.is_apart (sym e))

  pub differs_before : (z : Item) → Precedes o z i → (z.a == i.a) ≡ false
  differs_before z p = ne_eqb z.a i.a
      (λ e. law.own_first_word z i p.first_valid p.second_valid p.is_apart e)
