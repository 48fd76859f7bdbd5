-- The lines of a text and the words of a line.
use Rattle.std.specs.Prelude.{ℕ, List, [], ◌∷◌, ◌==◌, if◌then◌else◌}
use Rattle.std.specs.List.{slice_split, onto_first}

-- Each line ends at a byte 10, and what comes after the last 10 is a line too, unless it is
-- nothing.
abbrev pub lines_of : List ℕ → List (List ℕ)
lines_of [] = []
lines_of (b ∷ bytes) = if b == 10 then [] ∷ lines_of bytes else onto_first b (lines_of bytes)

-- the most bytes that a line may have, without its end
abbrev pub longest_line : ℕ
longest_line = 4096

-- The parts between blanks: two blanks side by side, and one at an end of the line, leave an empty
-- part.
abbrev pub words_of : List ℕ → List (List ℕ)
words_of line = slice_split (λ b. b == 32) line
