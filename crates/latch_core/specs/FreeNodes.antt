-- The nodes of a memory, shared out between the free ones and the ones of the trees.
use Rattle.std.specs.Prelude.{◌≡◌, ℕ, ◌<◌, List, length, All, nat_eq}
use Rattle.std.specs.List.{IsDistinct}

-- these are all the numbers below n, each once
pub record AreAllNodes (n : ℕ) (nodes : List ℕ) : Type 0 where
  pub below : All (λ i. i < n) nodes
  pub distinct : IsDistinct nat_eq nodes
  pub as_many : length nodes ≡ n
