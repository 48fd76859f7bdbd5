-- A list of stores that has room for more, and more stores in it.
use Rattle.std.specs.Prelude.{◌≡◌, ◌+◌, ◌≤◌, List, ◌++◌, length, vec_items, vec_len, vec_capacity}
use Rattle.std.specs.declared.vec.Vec.{Vec}

-- these fit with no allocation
abbrev pub Fits : {X Z : Type 0} → Vec X Z → List X → Type 0
Fits out xs = vec_len out + length xs ≤ vec_capacity out

-- the new list is the old one with these after it
abbrev pub Adds : {X Z : Type 0} → Vec X Z → List X → Vec X Z → Type 0
Adds old xs new = vec_items new ≡ vec_items old ++ xs
