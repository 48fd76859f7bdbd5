-- The lines of a listing of modules, in the form of /proc/modules.
use Rattle.std.specs.Prelude.{ℕ, ◌+◌, ◌^◌, Bool, ◌||◌, ◌==◌, nat_eq, nat_lt}
use Rattle.std.specs.Prelude.{if◌then◌else◌, List, [], ◌∷◌, length, drop, filter, codes, Option}
use Rattle.std.specs.Prelude.{Some, None, Result, Ok, Err}
use Rattle.std.specs.List.{slice_split, starts_with}
use Rattle.modules.specs.Listed.{ListedModule}
use Rattle.texts.specs.Lines.{longest_line}
use Rattle.texts.specs.Numbers.{numeral}
use Rattle.listing.specs.Skipping.{counts_by, taken_by}
use Rattle.listing.specs.declared.causes.TheConstants.{EMPTY, HIDDEN, LONG, MALFORMED, WRAPS}
use Rattle.listing.specs.declared.module_listing.SkippedModule.{SkippedModule}
use Rattle.listing.specs.declared.module_listing.SkippedModule.TheVariants.{Hidden, Empty, Wraps}
use Rattle.listing.specs.declared.module_listing.SkippedModule.TheVariants.{Long, Malformed}

-- a blank or a tab
abbrev pub is_gap : ℕ → Bool
is_gap b = b == 32 || b == 9

-- the longest runs of bytes that are neither blank nor tab
abbrev pub runs_of : List ℕ → List (List ℕ)
runs_of line = filter (λ w. nat_lt 0 (length w)) (slice_split is_gap line)

-- `0x` and 1 to 16 hexadecimal digits
abbrev pub base_of : List ℕ → Option ℕ
base_of word = if starts_with nat_eq word (codes "0x") then numeral 16 16 (drop 2 word) else None

-- the module of this name, if its size and its base are there
abbrev pub module_of_parts : List ℕ → Option ℕ → Option ℕ → Option ListedModule
module_of_parts name (Some size) (Some base) =
    Some (record { name = name; base = base; size = size })
module_of_parts name _ _ = None

-- `NAME SIZE USES USERS STATE BASE`, and whatever follows
abbrev pub module_of_words : List (List ℕ) → Option ListedModule
module_of_words (name ∷ size ∷ uses ∷ users ∷ state ∷ base ∷ more) =
    module_of_parts name (numeral 10 20 size) (base_of base)
module_of_words _ = None

-- a module that has a region
abbrev pub placed_module : ListedModule → Result ListedModule SkippedModule
placed_module m =
    if m.base == 0 then Err Hidden
    else if m.size == 0 then Err Empty
    else if nat_lt (m.base + m.size) (2 ^ 64) then Ok m
    else Err Wraps

abbrev pub checked_module : Option ListedModule → Result ListedModule SkippedModule
checked_module None = Err Malformed
checked_module (Some m) = placed_module m

-- the module that a line is, or the first cause for which it is skipped
abbrev pub module_of_line : List ℕ → Result ListedModule SkippedModule
module_of_line line =
    if nat_lt longest_line (length line) then Err Long
    else checked_module (module_of_words (runs_of line))

-- the causes, in the order in which their counts are written
abbrev pub module_causes : List SkippedModule
module_causes = Hidden ∷ Empty ∷ Wraps ∷ Long ∷ Malformed ∷ []

-- the place of a cause in that order
abbrev pub module_place : SkippedModule → ℕ
module_place Hidden = 0
module_place Empty = 1
module_place Wraps = 2
module_place Long = 3
module_place Malformed = 4

-- what a cause is called
abbrev pub module_cause_name : SkippedModule → List ℕ
module_cause_name Hidden = HIDDEN.now
module_cause_name Empty = EMPTY.now
module_cause_name Wraps = WRAPS.now
module_cause_name Long = LONG.now
module_cause_name Malformed = MALFORMED.now

-- the modules that the lines are, in their order
abbrev pub modules_in : List (List ℕ) → List ListedModule
modules_in lines = taken_by module_of_line lines

-- how many lines are skipped, by cause
abbrev pub module_counts : List (List ℕ) → List ℕ
module_counts lines = counts_by module_place module_causes module_of_line lines
