-- What a change makes of a listing.
use Rattle.std.specs.Prelude.{ℕ, ◌+◌, not, Bool, true, false, if◌then◌else◌}
use Rattle.std.specs.Prelude.{List, [], ◌∷◌, ◌++◌, Option, Some, None, is_some}
use Rattle.std.specs.List.{flat_map, list_any}
use Rattle.std.specs.Option.{option_map_or, option_or}
use Rattle.std.specs.Str.{bytes_eq}
use Rattle.modules.specs.Names.{with_name}
use Rattle.logs.specs.Lines.{lines}
use Rattle.histories.specs.Grammar.{gone_of, is_understood_after}
use Rattle.histories.specs.declared.grammar.Header.{Header}
use Rattle.histories.specs.ListingLines.{module_of, without_end}

-- the module that a line of a change names: the one that is gone, or its own
abbrev pub named_module : List ℕ → Option (List ℕ)
named_module line = option_or (gone_of line) (module_of line)

-- a change names a module, if one of its lines does
abbrev pub is_named : List ℕ → List ℕ → Bool
is_named change name =
    list_any (λ line. option_map_or (bytes_eq name) (named_module (without_end line)) false)
    (lines change)

-- a line is kept, unless it is one of a module that is named
abbrev pub is_kept : (List ℕ → Bool) → List ℕ → Bool
is_kept named line = option_map_or (λ m. not (named m)) (module_of (without_end line)) true

abbrev pub kept_lines : (List ℕ → Bool) → List (List ℕ) → List ℕ
kept_lines named listing = flat_map (λ line. if is_kept named line then line else []) listing

-- the lines of a change that are lines of a listing: all but `gone NAME`
abbrev pub added_lines : List (List ℕ) → List ℕ
added_lines change =
    flat_map (λ line. if is_some (gone_of (without_end line)) then [] else line) change

-- a listing after a change: the lines that are kept, and then those that are added
abbrev pub changed_by : List ℕ → List ℕ → List ℕ
changed_by change listing =
    kept_lines (is_named change) (lines listing) ++ added_lines (lines change)

-- ---- which lines a change may have

-- the header of a change at any time
abbrev pub in_change : Header
in_change = record { is_change = true; time = 0 }

-- the number of the first line that is not understood in a change, if the first has this number
abbrev pub bad_line_from : ℕ → List (List ℕ) → Option ℕ
bad_line_from number [] = None
bad_line_from number (line ∷ more) =
    if is_understood_after in_change (without_end line) then bad_line_from (number + 1) more
    else Some number

abbrev pub bad_line_of : List ℕ → Option ℕ
bad_line_of change = bad_line_from 1 (lines change)

-- ---- names that are collected

-- a name is one of these
abbrev pub is_among : List (List ℕ) → List ℕ → Bool
is_among names name = list_any (bytes_eq name) names

-- these names and one more, if there is one that is not among them
abbrev pub with_named : List (List ℕ) → Option (List ℕ) → List (List ℕ)
with_named names name = option_map_or (with_name names) name names
