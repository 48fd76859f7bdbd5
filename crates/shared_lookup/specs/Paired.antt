-- Two lists whose entries belong together, place by place.
use Rattle.std.specs.Prelude.{◌≡◌, ℕ, List, length, slice_get, Some}

-- the lists are as long, and `P` holds of each place and the two entries at it
pub record ArePaired {X Y : Type 0} (P : ℕ → X → Y → Type 0) (xs : List X) (ys : List Y)
    : Type 0 where
  pub same : length ys ≡ length xs
  pub each : (place : ℕ) (x : X) (y : Y) → slice_get xs place ≡ Some x → slice_get ys place ≡ Some y
      → P place x y
