-- First words that are left out of a table, in another order.
use Rattle.order_laws.proofs.Words.{◌≡◌, ℕ, cond, List, [], ◌∷◌, refl, not, ◌==◌, Item, without_all}
use Rattle.std.specs.List.Sorted.{IsPermutation}
use Rattle.std.proofs.lemmas.List.Sorted.{list_any-IsPermutation}

pub without_moved : (gone gone' : List ℕ) → IsPermutation gone gone' → (xs : List Item)
    → without_all gone xs ≡ without_all gone' xs
without_moved gone gone' p [] = refl
without_moved gone gone' p (x ∷ xs) =
    λ i. cond (not (list_any-IsPermutation (λ a. a == x.a) gone gone' p i))
    (x ∷ without_moved gone gone' p xs i) (without_moved gone gone' p xs i)
