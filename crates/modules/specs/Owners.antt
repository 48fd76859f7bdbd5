-- Whose an address is, by a listing of symbols alone.
use Rattle.std.specs.Prelude.{ℕ, ◌+◌, ◌-◌, ◌/◌, ◌^◌, Bool, false, not, ◌&&◌, ◌||◌, nat_eq, nat_le}
use Rattle.std.specs.Prelude.{nat_lt, is_some, if◌then◌else◌, List, find, filter, Option, None}
use Rattle.std.specs.List.{list_all}
use Rattle.std.specs.Option.{option_map_or, option_and_then}
use Rattle.std.specs.Str.{bytes_eq}
use Rattle.modules.specs.Kept.{is_built_in}
use Rattle.modules.specs.Listed.{ListedSymbol}
use Rattle.modules.specs.Regions.{lies_in_any}

-- a line of a module outside the kernel's regions, and below the greatest address, which no region
-- holds
abbrev pub is_outside : List (ℕ × ℕ) → ListedSymbol → Bool
is_outside kernel l =
    is_some l.owner && not (lies_in_any kernel l.addr) && nat_lt l.addr (2 ^ 64 - 1)

-- the lines that may say whose an address is
abbrev pub posts : List (ℕ × ℕ) → List ListedSymbol → List ListedSymbol
posts kernel lines = filter (λ l. is_built_in kernel l || is_outside kernel l) lines

-- the line is not above the address, and none lies above it and not above the address
abbrev pub is_nearest_line : List ListedSymbol → ℕ → ListedSymbol → Bool
is_nearest_line lines addr l =
    nat_le l.addr addr && list_all (λ t. nat_le t.addr l.addr || nat_lt addr t.addr) lines

-- the first listed of the nearest lines that are not above the address
abbrev pub post_below : List ListedSymbol → ℕ → Option ListedSymbol
post_below lines addr = find (is_nearest_line lines addr) lines

-- the line is above the address, and none lies above the address and below it
abbrev pub is_next_line : List ListedSymbol → ℕ → ListedSymbol → Bool
is_next_line lines addr l =
    nat_lt addr l.addr && list_all (λ t. nat_le t.addr addr || nat_le l.addr t.addr) lines

-- the first listed of the nearest lines above the address
abbrev pub post_above : List ListedSymbol → ℕ → Option ListedSymbol
post_above lines addr = find (is_next_line lines addr) lines

-- both addresses lie in one page of memory
abbrev pub is_in_page : ℕ → ℕ → Bool
is_in_page post addr = nat_eq (post / 4096) (addr / 4096)

-- how far apart two lines of a module lie at least if nothing between them is the module's
abbrev pub reach : ℕ
reach = 1048576

-- both lines are of one module
abbrev pub is_of_one_module : ListedSymbol → ListedSymbol → Bool
is_of_one_module l t =
    option_map_or (λ name. option_map_or (bytes_eq name) t.owner false) l.owner false

-- the module goes on from its line, which is below the address, to the next line above it
abbrev pub goes_on : List ListedSymbol → ℕ → ListedSymbol → Bool
goes_on lines addr l =
    option_map_or (λ t. is_of_one_module l t && nat_lt t.addr (l.addr + reach))
    (post_above lines addr) false

-- the name of the module whose address it is; none if it is the kernel's own or nobody's: the
-- module of the post below has the page of its post, and what lies between two posts of its own
abbrev pub module_of_address : List ListedSymbol → ℕ → Option (List ℕ)
module_of_address lines addr =
    option_and_then
    (λ l. if is_in_page l.addr addr || goes_on lines addr l then l.owner else None)
    (post_below lines addr)
