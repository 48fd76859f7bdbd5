-- The header of a trace, its first line.
use Rattle.std.specs.Prelude.{ℕ, Bool, true, false, List, [], ◌∷◌, codes, Option, Some, None}
use Rattle.std.specs.Prelude.{if◌then◌else◌}
use Rattle.std.specs.Str.{bytes_eq}
use Rattle.run_files.specs.declared.header.Header.{Header}
use Rattle.run_files.specs.declared.header.Version.{Version}
use Rattle.run_files.specs.declared.header.Version.TheVariants.{First, Second, Third}
use Rattle.texts.specs.Lines.{words_of}
use Rattle.texts.specs.Said.{is_too_long}
use Rattle.texts.specs.Numbers.{number_of, short_number_of}

-- whether the named order of items is the closed one
abbrev pub is_closed_of : List ℕ → Option Bool
is_closed_of order =
    if bytes_eq order (codes "closed") then Some true
    else if bytes_eq order (codes "halfopen") then Some false
    else None

-- the version that a word names
abbrev pub version_of : List ℕ → Option Version
version_of word =
    if bytes_eq word (codes "1") then Some First
    else if bytes_eq word (codes "2") then Some Second
    else if bytes_eq word (codes "3") then Some Third
    else None

-- a trace of this version may have lines `batch`
abbrev pub has_batches : Version → Bool
has_batches First = false
has_batches Second = true
has_batches Third = true

-- the sequence of a trace of this version may go up to the wide limit
abbrev pub is_wide : Version → Bool
is_wide First = false
is_wide Second = false
is_wide Third = true

-- a header, if each of its parts is there
abbrev pub header_of_parts : Option Version → Option Bool → Option ℕ → Option ℕ → Option Header
header_of_parts (Some version) (Some closed) (Some capacity) (Some start) =
    Some (record { version = version; closed = closed; capacity = capacity; start = start })
header_of_parts _ _ _ _ = None

-- the header of these words and this start, if each of them is one
abbrev pub header_with : List ℕ → List ℕ → List ℕ → List ℕ → Option ℕ → Option Header
header_with name version order capacity start =
    if bytes_eq name (codes "latchtrace")
    then header_of_parts (version_of version) (is_closed_of order) (short_number_of capacity) start
    else None

-- `latchtrace VERSION ORDER CAPACITY` and `latchtrace VERSION ORDER CAPACITY START`
abbrev pub header_of_words : List (List ℕ) → Option Header
header_of_words (name ∷ version ∷ order ∷ capacity ∷ []) =
    header_with name version order capacity (Some 0)
header_of_words (name ∷ version ∷ order ∷ capacity ∷ start ∷ []) =
    header_with name version order capacity (number_of start)
header_of_words _ = None

-- the header that a line is, if it is one
abbrev pub header_of : List ℕ → Option Header
header_of line = if is_too_long line then None else header_of_words (words_of line)
