-- The lines of a log.
use Rattle.std.specs.Prelude.{◌≡◌, ℕ, Bool, List, [], ◌∷◌, ◌++◌, ◌==◌, if◌then◌else◌, false, length}
use Rattle.std.specs.Prelude.{nat_lt}
use Rattle.std.specs.Prelude.{Option, Some, None}
use Rattle.std.specs.List.{list_any, onto_first}

-- A line has the byte 10 that ends it. The bytes after the last end, if there are any, are a line
-- too.
abbrev pub lines : List ℕ → List (List ℕ)
lines [] = []
lines (b ∷ bytes) = if b == 10 then (b ∷ []) ∷ lines bytes else onto_first b (lines bytes)

-- a line has more bytes than one that is annotated
abbrev pub is_long : List ℕ → Bool
is_long line = nat_lt 65536 (length line)

-- a line, unless it is such a one
abbrev pub unless_long : List ℕ → Option (List ℕ)
unless_long line = if is_long line then None else Some line

-- whether a line ends among the bytes
abbrev pub has_end : List ℕ → Bool
has_end bytes = list_any (λ b. b == 10) bytes

-- The bytes are whole lines: what comes after them is other lines.
abbrev pub AreWhole : List ℕ → Type 0
AreWhole bytes = (rest : List ℕ) → lines (bytes ++ rest) ≡ lines bytes ++ lines rest

-- the bytes have one end of a line, at their end
abbrev pub IsLine : List ℕ → Type 0
IsLine bytes = (front : List ℕ) × (has_end front ≡ false) × (bytes ≡ front ++ 10 ∷ [])
