-- What a script says: what writers and readers do, or the number of the first line that is not in
-- the grammar.
use Rattle.std.specs.Prelude.{ℕ, Bool, ◌&&◌, nat_le, nat_lt, if◌then◌else◌, List, [], ◌∷◌, length}
use Rattle.std.specs.Prelude.{codes, Option, Some, None, Result}
use Rattle.std.specs.Option.{option_and_then}
use Rattle.std.specs.Str.{bytes_eq}
use Rattle.run_files.specs.declared.scripts.ScriptLine.{ScriptLine}
use Rattle.run_files.specs.declared.scripts.ScriptLine.TheVariants.{Load, Unload, Init, Look}
use Rattle.texts.specs.Lines.{lines_of, words_of}
use Rattle.texts.specs.Numbers.{between, number_of}
use Rattle.texts.specs.Said.{entries_from}

-- the greatest number of a writer
abbrev pub most_writers : ℕ
most_writers = 8

-- the change of a named module that a verb names
abbrev pub change_named : List ℕ → ℕ → List ℕ → Option ScriptLine
change_named verb writer name =
    if bytes_eq verb (codes "load") then Some (Load writer name)
    else if bytes_eq verb (codes "unload") then Some (Unload writer name)
    else if bytes_eq verb (codes "init") then Some (Init writer name)
    else None

-- a name has at least one byte
abbrev pub change_by : List ℕ → ℕ → List ℕ → Option ScriptLine
change_by verb writer name = if nat_lt 0 (length name) then change_named verb writer name else None

-- `look R ADDR`
abbrev pub look_with : Option ℕ → Option ℕ → Option ScriptLine
look_with (Some reader) (Some address) = Some (Look reader address)
look_with _ _ = None

-- what three words are, for this many readers
abbrev pub script_line_with : ℕ → List ℕ → List ℕ → List ℕ → Option ScriptLine
script_line_with readers verb actor what =
    if bytes_eq verb (codes "look")
    then look_with (between 1 readers (number_of actor)) (number_of what)
    else
    option_and_then
    (λ writer. change_by verb writer what)
    (between 1 most_writers (number_of actor))

-- `load W NAME`, `unload W NAME`, `init W NAME` and `look R ADDR`
abbrev pub script_line_of : ℕ → List (List ℕ) → Option ScriptLine
script_line_of readers (verb ∷ actor ∷ what ∷ []) = script_line_with readers verb actor what
script_line_of readers _ = None

-- what a line has an actor do, if it has one do something
abbrev pub script_line_by : ℕ → List ℕ → Option ScriptLine
script_line_by readers line = script_line_of readers (words_of line)

abbrev pub script_of : ℕ → List ℕ → Result (List ScriptLine) ℕ
script_of readers text = entries_from (script_line_by readers) 1 (lines_of text)

-- the number lies between two others
abbrev pub lies_between : ℕ → ℕ → ℕ → Bool
lies_between low high n = nat_le low n && nat_le n high

-- its writer is one that a script may have, or its reader one of this many
abbrev pub has_actor : ℕ → ScriptLine → Bool
has_actor readers (Load writer name) = lies_between 1 most_writers writer
has_actor readers (Unload writer name) = lies_between 1 most_writers writer
has_actor readers (Init writer name) = lies_between 1 most_writers writer
has_actor readers (Look reader address) = lies_between 1 readers reader
