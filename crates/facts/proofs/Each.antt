-- Facts about what each element of a list has, as `AllByRecursion` says it.
use Rattle.facts.proofs.Words.{◌++◌, ◌<◌, ◌∷◌, ◌≡◌, ◌≢◌, ◌≤◌, Bool, List, Some, [], arith}
use Rattle.facts.proofs.Words.{drop, eqb, false, get_or, length, subst, suc, true, zero, ℕ, ⊎_elim}
use Rattle.facts.proofs.Words.{Contains, filter, slice_get, AllByRecursion, list_any}
use Rattle.facts.proofs.Words.{IsNonDecreasingBy, eqb-true, ne_eqb, or_cases, All-contains}
use Rattle.facts.proofs.Words.{All-from_recursion}
use Rattle.std.specs.Prelude.{insert, remove}
use Rattle.facts.proofs.Members.{Contains-rest}
use Rattle.std.proofs.lemmas.Bool.Decides.{nat_tests}

pub all_left : {X : Type 0} (P : X → Type 0) (xs ys : List X) → AllByRecursion P (xs ++ ys)
    → AllByRecursion P xs
all_left P [] ys h = tt
all_left P (x ∷ xs) ys h = (h.0, all_left P xs ys h.1)

pub all_right : {X : Type 0} (P : X → Type 0) (xs ys : List X) → AllByRecursion P (xs ++ ys)
    → AllByRecursion P ys
all_right P [] ys h = h
all_right P (x ∷ xs) ys h = all_right P xs ys h.1

pub all_append : {X : Type 0} (P : X → Type 0) (xs ys : List X) → AllByRecursion P xs
    → AllByRecursion P ys → AllByRecursion P (xs ++ ys)
all_append P [] ys a b = b
all_append P (x ∷ xs) ys a b = (a.0, all_append P xs ys a.1 b)

pub all_push : {X : Type 0} (P : X → Type 0) (xs : List X) (x : X) → AllByRecursion P xs → P x
    → AllByRecursion P (xs ++ x ∷ [])
all_push P [] x h p = (p, tt)
all_push P (y ∷ xs) x h p = (h.0, all_push P xs x h.1 p)

pub all_weaker : {X : Type 0} (P Q : X → Type 0) → ((x : X) → P x → Q x) → (xs : List X)
    → AllByRecursion P xs → AllByRecursion Q xs
all_weaker P Q f [] h = tt
all_weaker P Q f (x ∷ xs) h = (f x h.0, all_weaker P Q f xs h.1)

pub all_at : {X : Type 0} (P : X → Type 0) (xs : List X) (x : X) → AllByRecursion P xs
    → Contains xs x → P x
all_at P xs x h is = All-contains P xs x (All-from_recursion P xs h) is

pub all_from : {X : Type 0} (P : X → Type 0) (xs : List X)
    → ((j : ℕ) (d : X) → j < length xs → P (get_or xs j d)) → AllByRecursion P xs
all_from P [] f = tt
all_from P (x ∷ xs) f =
    (f zero x (omega arith), all_from P xs (λ j d lt. f (suc j) d (omega (arith, lt))))

pub all_filtered : {X : Type 0} (P : X → Type 0) (test : X → Bool) (xs : List X)
    → AllByRecursion P xs → AllByRecursion P (filter test xs)
all_filtered P test [] h = tt
all_filtered P test (x ∷ xs) h = grind (arith, nat_tests, all_filtered P test xs h.1)

-- ---- with an element put in or taken out, a rest, and the element at a place

module _ {X : Type 0} (P : X → Type 0) where
  pub all_insert : (xs : List X) (i : ℕ) (x : X) → AllByRecursion P xs → P x
      → AllByRecursion P (insert xs i x)
  all_insert xs zero x h p = (p, h)
  all_insert [] (suc i) x h p = (p, tt)
  all_insert (y ∷ xs) (suc i) x h p = (h.0, all_insert xs i x h.1 p)

  pub all_remove : (xs : List X) (i : ℕ) → AllByRecursion P xs → AllByRecursion P (remove xs i)
  all_remove [] zero h = tt
  all_remove (y ∷ xs) zero h = h.1
  all_remove [] (suc i) h = tt
  all_remove (y ∷ xs) (suc i) h = (h.0, all_remove xs i h.1)

  pub all_drop : (xs : List X) (i : ℕ) → AllByRecursion P xs → AllByRecursion P (drop i xs)
  all_drop xs zero h = h
  all_drop [] (suc i) h = tt
  all_drop (y ∷ xs) (suc i) h = all_drop xs i h.1

  pub all_get : (xs : List X) (i : ℕ) (x : X) → AllByRecursion P xs → slice_get xs i ≡ Some x → P x
  all_get [] i x h e = absurd (cc)
  all_get (y ∷ xs) zero x h e = let same : y ≡ x = cc in subst P same h.0
  all_get (y ∷ xs) (suc i) x h e = all_get xs i x h.1 e

-- ---- of numbers

-- what is not in a list differs from each of its members
pub all_differ : {X : Type 0} (xs : List X) (x : X) → (Contains xs x → ⊥)
    → AllByRecursion (λ y. y ≢ x) xs
all_differ [] x absent = tt
all_differ (y ∷ xs) x absent =
    ((λ e. absent (0, omega arith, e)), all_differ xs x (λ is. absent (Contains-rest y x xs is)))

pub all_differ_test : (x : ℕ) (xs : List ℕ) → AllByRecursion (λ y. x ≢ y) xs
    → AllByRecursion (λ y. eqb x y ≡ false) xs
all_differ_test x [] h = tt
all_differ_test x (y ∷ xs) h = (ne_eqb x y h.0, all_differ_test x xs h.1)

pub all_below : (n q : ℕ) (xs : List ℕ) → AllByRecursion (λ i. i < n) xs
    → list_any (eqb q) xs ≡ true → q < n
all_below n q [] h e = absurd (cc)
all_below n q (x ∷ xs) h e =
    ⊎_elim
    (λ same. let is : q ≡ x = eqb-true q x same in omega (arith, h.0))
    (λ rest. all_below n q xs h.1 rest)
    (or_cases (eqb q x) (list_any (eqb q) xs) e)

-- ---- of a list in order

-- no element after the first is below it
pub all_not_below : {X : Type 0} (n : X → ℕ) (x : X) (xs : List X) → IsNonDecreasingBy n (x ∷ xs)
    → AllByRecursion (λ y. n x ≤ n y) xs
all_not_below n x xs sorted =
    all_from (λ y. n x ≤ n y) xs (λ j d lt. sorted zero (suc j) d (omega arith) (omega (arith, lt)))

pub rest_in_order : {X : Type 0} (n : X → ℕ) (x : X) (xs : List X) → IsNonDecreasingBy n (x ∷ xs)
    → IsNonDecreasingBy n xs
rest_in_order n x xs sorted i j d le lt =
    sorted (suc i) (suc j) d (omega (arith, le)) (omega (arith, lt))
