-- Lists that are filtered twice, and the first element that passes.
use Rattle.modules.proofs.Words.{◌≡◌, Bool, true, false, cond, List, [], ◌∷◌, refl, get_or}
use Rattle.modules.proofs.Words.{arith, filter, find, slice_get, All}
use Rattle.std.specs.List.{list_all}
use Rattle.modules.proofs.Lemmas.{All-cons, All-filter, All-head, All-nil, All-tail, and_left}
use Rattle.modules.proofs.Lemmas.{and_parts, filter_passes}

module _ {X : Type 0} (p q : X → Bool) where
  -- what passes the second passes the first
  pub filter_within : ((x : X) → q x ≡ true → p x ≡ true) → (xs : List X)
      → filter q (filter p xs) ≡ filter q xs
  filter_within h [] = refl
  filter_within h (x ∷ xs) = grind (arith, filter_within h xs, h x)

  -- what passes the second does not pass the first
  pub filter_none : ((x : X) → q x ≡ true → p x ≡ false) → (xs : List X)
      → filter q (filter p xs) ≡ []
  filter_none h [] = refl
  filter_none h (x ∷ xs) = grind (arith, filter_none h xs, h x)

  pub filter_swap : (xs : List X) → filter q (filter p xs) ≡ filter p (filter q xs)
  filter_swap [] = refl
  filter_swap (x ∷ xs) = grind (arith, filter_swap xs)

-- all pass
pub filter_whole : {X : Type 0} (p : X → Bool) (xs : List X) → list_all p xs ≡ true
    → filter p xs ≡ xs
filter_whole p [] all = refl
filter_whole p (x ∷ xs) all = grind (arith, filter_whole p xs, and_left, and_parts)

-- the first that passes is the first of those that pass
pub find_first : {X : Type 0} (p : X → Bool) (xs : List X) → find p xs ≡ slice_get (filter p xs) 0
find_first p [] = refl
find_first p (x ∷ xs) = grind (arith, find_first p xs)

-- what follows from a test holds of all that pass it
pub all_passing : {X : Type 0} (p : X → Bool) (Q : X → Type 0) (xs : List X)
    → All (λ x. p x ≡ true → Q x) xs → All Q (filter p xs)
all_passing p Q xs all =
    λ k d lt. All-filter p (λ x. p x ≡ true → Q x) xs all k d lt (filter_passes p xs k d lt)

pub all_of_passing : {X : Type 0} (p : X → Bool) (Q : X → Type 0) (xs : List X)
    → All Q (filter p xs) → All (λ x. p x ≡ true → Q x) xs
all_of_passing p Q [] all = All-nil (λ x. p x ≡ true → Q x)
all_of_passing p Q (x ∷ xs) all =
    elim (p x) as (λ b. p x ≡ b → All Q (cond b (x ∷ filter p xs) (filter p xs))
    → All (λ y. p y ≡ true → Q y) (x ∷ xs)) [
      | true ↦ λ _ both.
          All-cons (λ y. p y ≡ true → Q y) x xs (λ _. All-head Q x (filter p xs) both)
          (all_of_passing p Q xs (All-tail Q x (filter p xs) both))
      | false ↦ λ fails rest.
          All-cons (λ y. p y ≡ true → Q y) x xs (λ passes. absurd (cc)) (all_of_passing p Q xs rest)
    ] refl all

-- a fact of all that pass, and of what does not, is one of all
pub all_of_filtered : {X : Type 0} (P : X → Type 0) (p : X → Bool)
    → ((x : X) → p x ≡ false → P x) → (xs : List X) → All P (filter p xs) → All P xs
all_of_filtered P p others xs h = λ k d lt.
    elim (p (get_or xs k d)) as (λ b. p (get_or xs k d) ≡ b → P (get_or xs k d)) [
      | true ↦ all_of_passing p P xs h k d lt
      | false ↦ others (get_or xs k d)
    ] refl
