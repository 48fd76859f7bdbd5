-- The lines of a change.
use Rattle.std.specs.Prelude.{ℕ, nat_eq, List, [], ◌∷◌, ◌++◌, codes, flat_map, length}
use Rattle.std.specs.Prelude.{if◌then◌else◌}
use Rattle.histories.specs.Changes.{is_among}
use Rattle.recordings.specs.Events.{is_word}
use Rattle.recordings.specs.ModuleLines.{SomeLines, text_of}

-- a header: a word with the blank after it, and a TIME
abbrev pub header_line : List ℕ → List ℕ → List ℕ
header_line word time = word ++ time ++ 10 ∷ []

-- that a module is gone; a history can say it of words alone
abbrev pub gone_line : List ℕ → List ℕ
gone_line name = if is_word name then codes "gone " ++ name ++ 10 ∷ [] else []

-- the lines of the module that a change is about, or that it is gone
abbrev pub own_lines : List ℕ → List ℕ → List ℕ
own_lines name own = if nat_eq (length own) 0 then gone_line name else own

-- the lines of the modules of these names
abbrev pub texts_among : List (List ℕ) → List SomeLines → List ℕ
texts_among names now = flat_map (λ m. if is_among names m.name then m.text else []) now

-- the module of this name is gone if it has no line now
abbrev pub gone_line_of : List SomeLines → List ℕ → List ℕ
gone_line_of now name = if nat_eq (length (text_of now name)) 0 then gone_line name else []

-- the names among these that are gone
abbrev pub gone_lines : List (List ℕ) → List SomeLines → List ℕ
gone_lines names now = flat_map (gone_line_of now) names

-- the lines of a change of one module, which has these lines now, and of others
abbrev pub change_lines : List ℕ → List ℕ → List (List ℕ) → List SomeLines → List ℕ
change_lines name own others now =
    own_lines name own ++ texts_among others now ++ gone_lines others now
