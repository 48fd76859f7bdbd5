-- Which of several things is current at a time, if each is so until the next one begins: a catalog
-- that a follower showed, a listing of a history.
use Rattle.std.specs.Prelude.{ℕ, nat_le, if◌then◌else◌, List, [], ◌∷◌, Option, Some, None}
use Rattle.std.specs.Prelude.{unwrap_or}

-- the last that began at or before the time
abbrev pub last_begun : {X : Type 0} → (X → ℕ) → ℕ → List X → Option X
last_begun start time [] = None
last_begun start time (x ∷ later) =
    if nat_le (start x) time
    then Some (unwrap_or (last_begun start time later) x)
    else last_begun start time later
