-- What a listing says of a symbol after its address: `t do_one`.
use Rattle.std.specs.Prelude.{ℕ, List, [], ◌∷◌}

-- the letter of its kind
abbrev pub letter_in : List ℕ → ℕ
letter_in [] = 0
letter_in (letter ∷ rest) = letter

-- its name, after the letter and a blank
abbrev pub name_in : List ℕ → List ℕ
name_in (letter ∷ blank ∷ name) = name
name_in _ = []
