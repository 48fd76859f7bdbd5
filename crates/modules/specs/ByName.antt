-- What has a name, in the order of names.
use Rattle.std.specs.Prelude.{◌≡◌, ℕ, ◌<◌, ◌≤◌, Bool, true, false, List, filter, length}
use Rattle.std.specs.Prelude.{slice_index_or}
use Rattle.std.specs.Cmp.Lexicographic.{slice_cmp}
use Rattle.std.specs.List.Sorted.{IsSortedBy}
use Rattle.std.specs.Ordering.{nat_cmp, is_lt}
use Rattle.std.specs.Str.{bytes_eq}

-- the name of the first is less than the name of the second
abbrev pub comes_first : {X : Type 0} → (X → List ℕ) → X → X → Bool
comes_first name x y = is_lt (slice_cmp nat_cmp (name x) (name y))

-- the list in the order of names, what has one name as it was listed
pub record IsSortedByName {X : Type 0} (name : X → List ℕ) (listed sorted : List X)
    : Type 0 where
  pub rises : IsSortedBy (comes_first name) sorted
  pub each : (q : List ℕ) → filter (λ x. bytes_eq (name x) q) sorted
      ≡ filter (λ x. bytes_eq (name x) q) listed

-- the elements below the place pass, and the others do not
pub record IsCut {X : Type 0} (passes : X → Bool) (index : List X) (place : ℕ) : Type 0 where
  pub bound : place ≤ length index
  pub below : (k : ℕ) (d : X) → k < place → passes (slice_index_or index k d) ≡ true
  pub others : (k : ℕ) (d : X) → place ≤ k → k < length index
      → passes (slice_index_or index k d) ≡ false
