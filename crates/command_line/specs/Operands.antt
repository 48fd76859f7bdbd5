-- Words of a command line that begin as options do, and are none.
use Rattle.std.specs.Prelude.{ℕ, Bool, ◌||◌, nat_eq, if◌then◌else◌, codes, List, [], insert}
use Rattle.std.specs.Prelude.{position}
use Rattle.std.specs.Prelude.{slice_index_or, Option, Some, None, option_and_then}
use Rattle.std.specs.List.{starts_with}
use Rattle.std.specs.Option.{option_map_or}
use Rattle.std.specs.Str.{bytes_eq}
use Rattle.clap.specs.Words.{Text}

-- the word names symbols of the kernel itself
abbrev pub is_kernel_name : Text → Bool
is_kernel_name word = starts_with nat_eq word (codes "-:")

-- no word after this one is an option
abbrev pub ends_options : Text → Bool
ends_options word = bytes_eq word (codes "--") || is_kernel_name word

-- the place of the first word that names such symbols, if no `--` comes before it
abbrev pub operand_place : List Text → Option ℕ
operand_place words =
    option_and_then
    (λ place. if is_kernel_name (slice_index_or words place []) then Some place else None)
    (position ends_options words)

-- the words, with `--` before that word
abbrev pub with_operands : List Text → List Text
with_operands words =
    option_map_or (λ place. insert words place (codes "--")) (operand_place words) words
