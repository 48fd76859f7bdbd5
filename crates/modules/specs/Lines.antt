-- What the lines of the listings say.
use Rattle.std.specs.Prelude.{ℕ, ◌+◌, ◌^◌, Bool, false, not, ◌&&◌, nat_lt, nat_eq, is_none, is_some}
use Rattle.std.specs.Prelude.{if◌then◌else◌, List, [], ◌∷◌, ◌++◌, find, Option, Some, None, codes}
use Rattle.std.specs.List.{list_all}
use Rattle.std.specs.Option.{option_map, option_map_or, option_and_then, option_to_list}
use Rattle.std.specs.Str.{bytes_eq}
use Rattle.modules.specs.Listed.{BoundNames, ListedModule, ListedRegion, ListedSymbol}
use Rattle.modules.specs.Regions.{is_apart}

-- at least one byte, not at 0 and not past the greatest address
abbrev pub is_region : ℕ → ℕ → Bool
is_region base size = not (nat_eq base 0) && not (nat_eq size 0) && nat_lt (base + size) (2 ^ 64)

-- the line of a module has a region
abbrev pub fits : ListedModule → Bool
fits l = is_region l.base l.size

-- the line of a region has one
abbrev pub region_fits : ListedRegion → Bool
region_fits l = is_region l.base l.size

-- from the base up to the base plus the size
abbrev pub module_line_region : ListedModule → ℕ × ℕ
module_line_region l = (l.base, l.base + l.size)

abbrev pub region_line_region : ListedRegion → ℕ × ℕ
region_line_region l = (l.base, l.base + l.size)

-- the address of the first line without a module that has this name
abbrev pub first_address : List ℕ → List ListedSymbol → Option ℕ
first_address name lines =
    option_map (λ l. l.addr) (find (λ l. is_none l.owner && bytes_eq l.name name) lines)

-- the module of the first line that is of one whose name passes
abbrev pub first_owner : (List ℕ → Bool) → List ListedSymbol → Option (List ℕ)
first_owner passes lines =
    option_and_then (λ l. l.owner) (find (λ l. option_map_or passes l.owner false) lines)

-- from the first symbol of the one name up to the first of the other, if both are there in this
-- order
abbrev pub built_in_region : BoundNames → List ListedSymbol → Option (ℕ × ℕ)
built_in_region names lines =
    option_and_then
    (λ start. option_and_then
    (λ end. if nat_lt start end then Some (start, end) else None)
    (first_address names.end lines))
    (first_address names.start lines)

-- the names that many listings have for both ends of the kernel
abbrev pub usual_bounds : BoundNames
usual_bounds = record { start = codes "_stext"; end = codes "_end" }

-- the names for both ends of the kernel's code, and of the code that its start alone needs
abbrev pub text_bounds : BoundNames
text_bounds = record { start = codes "_stext"; end = codes "_etext" }

abbrev pub start_bounds : BoundNames
start_bounds = record { start = codes "_sinittext"; end = codes "_einittext" }

-- the regions with this one after them, if it is there and apart from them
abbrev pub with_apart : List (ℕ × ℕ) → Option (ℕ × ℕ) → List (ℕ × ℕ)
with_apart regions None = regions
with_apart regions (Some r) =
    if list_all (is_apart r) regions then regions ++ r ∷ [] else regions

-- the regions of the kernel's code, as the kernel itself takes them if its listing has no end
abbrev pub code_regions : List ListedSymbol → List (ℕ × ℕ)
code_regions lines =
    with_apart (with_apart [] (built_in_region text_bounds lines))
    (built_in_region start_bounds lines)

-- the regions of the kernel itself: that between the names that are given, or else the usual ones,
-- which are the whole kernel or else its code
abbrev pub kernel_regions : Option BoundNames → List ListedSymbol → List (ℕ × ℕ)
kernel_regions None lines =
    option_map_or (λ r. r ∷ []) (built_in_region usual_bounds lines) (code_regions lines)
kernel_regions (Some names) lines = option_to_list (built_in_region names lines)

-- the name of the symbol at which the usual regions of the kernel end, as far as a listing has it
abbrev pub usual_end : List ListedSymbol → List ℕ
usual_end lines =
    if is_some (first_address (codes "_end") lines) then codes "_end" else codes "_etext"

-- the names that are noted if a listing has no symbol of one of them
abbrev pub usual_bounds_of : List ListedSymbol → BoundNames
usual_bounds_of lines = record { start = codes "_stext"; end = usual_end lines }

-- the names that are given, or else the usual ones
abbrev pub bounds_for : Option BoundNames → List ListedSymbol → BoundNames
bounds_for None lines = usual_bounds_of lines
bounds_for (Some names) lines = names
