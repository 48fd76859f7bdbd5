-- The claims of a pool's slots, as include/latchsym.h counts them: a number for each slot, to which
-- a claim adds 1 and so does its end.
use Rattle.std.specs.Prelude.{◌≡◌, ◌≤◌, ◌%◌, ℕ, List, [], ◌∷◌}

-- a call has the reader of the slot
abbrev pub IsClaimed : ℕ → Type 0
IsClaimed claims = claims % 2 ≡ 1

-- the claims of these slots later on: none has fallen
abbrev pub HaveRisen : List ℕ → List ℕ → Type 0
HaveRisen [] [] = Unit {0}
HaveRisen (m ∷ ms) (n ∷ ns) = (m ≤ n) × HaveRisen ms ns
HaveRisen [] (n ∷ ns) = ⊥
HaveRisen (m ∷ ms) [] = ⊥
