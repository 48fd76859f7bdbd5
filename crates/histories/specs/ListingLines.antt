-- The lines of a listing, each with its module.
use Rattle.std.specs.Prelude.{ℕ, ◌-◌, Bool, false, if◌then◌else◌, nat_eq, is_none}
use Rattle.std.specs.Prelude.{List, [], ◌∷◌, length, take, Option}
use Rattle.std.specs.List.{ends_with}
use Rattle.std.specs.Option.{option_and_then, option_map_or}
use Rattle.listing.specs.SymbolListing.{owner_in_line}

abbrev pub without_end : List ℕ → List ℕ
without_end line =
    if ends_with nat_eq line (10 ∷ []) then take (length line - 1) line else line

-- the module of a well-formed line, if it has one
abbrev pub module_of : List ℕ → Option (List ℕ)
module_of line = option_and_then (λ owner. owner) (owner_in_line line)

-- a well-formed line of the kernel itself
abbrev pub is_of_kernel : List ℕ → Bool
is_of_kernel line = option_map_or is_none (owner_in_line line) false
