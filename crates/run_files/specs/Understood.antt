-- What a trace is, line by line.
use Rattle.std.specs.Prelude.{◌≡◌, ◌⊎◌, ℕ, List, [], ◌∷◌, Some, None}
use Rattle.texts.specs.Understood.{AreSaidBy, IsFirstBadFrom}
use Rattle.run_files.specs.declared.header.Header.{Header}
use Rattle.run_files.specs.Commands.{command_by}
use Rattle.run_files.specs.Header.{header_of}
use Rattle.run_files.specs.Trace.{Contents}

-- the first line is the header, each later line is in the grammar, and the commands are theirs
abbrev pub IsTraceBy : List (List ℕ) → Contents → Type 0
IsTraceBy [] trace = ⊥
IsTraceBy (first ∷ lines) trace =
    (header_of first ≡ Some trace.header)
    × AreSaidBy (command_by trace.header.version) lines trace.commands

-- the line with this number is the first that is not in the grammar; a trace of no lines has a bad
-- line 1
abbrev pub IsFirstBad : List (List ℕ) → ℕ → Type 0
IsFirstBad [] n = n ≡ 1
IsFirstBad (first ∷ lines) n =
    ((n ≡ 1) × (header_of first ≡ None))
    ⊎ ((header : Header) × (header_of first ≡ Some header)
    × IsFirstBadFrom (command_by header.version) 2 lines n)
