-- The lines of events as blocks come.
use Rattle.std.specs.Prelude.{◌≡◌, ◌⊎◌, ℕ, List, ◌++◌, false, true, map, if◌then◌else◌}
use Rattle.logs.specs.Lines.{AreWhole, has_end, is_long, lines}
use Rattle.recordings.specs.Events.{said_by}
use Rattle.recordings.specs.declared.events.EventLine.{EventLine}

-- what the lines of a text say
abbrev pub said_in : List ℕ → List EventLine
said_in text = map said_by (lines text)

-- Of this line, which has no end yet, that is kept: all of it, or so much that it is too long.
pub record IsOpen (begun line : List ℕ) : Type 0 where
  pub no_end : has_end line ≡ false
  pub none_kept : has_end begun ≡ false
  pub kept : (begun ≡ line) ⊎ ((is_long begun ≡ true) × (is_long line ≡ true))

-- what is kept of a line with these bytes
abbrev pub kept_with : List ℕ → List ℕ → List ℕ
kept_with begun bytes = if is_long begun then begun else begun ++ bytes

-- With a block, after a line that is open, some lines have their end, and one is open after them.
pub record EndsLines (line block ended line' : List ℕ) : Type 0 where
  pub parts : line ++ block ≡ ended ++ line'
  pub whole : AreWhole ended
  pub no_end : has_end line' ≡ false

-- The lines of this text say what those say that have their end with a block; of the line after
-- them this is kept.
abbrev pub TakesBlock : List ℕ → List ℕ → List ℕ → List ℕ → Type 0
TakesBlock begun' line block text =
    (ended : List ℕ) × (line' : List ℕ) × EndsLines line block ended line'
    × IsOpen begun' line' × (said_in text ≡ said_in ended)
