-- The marks of the lines of a listing, by the numbers of their modules.
use Rattle.std.specs.Prelude.{◌≡◌, ℕ, suc, ◌-◌, ◌^◌, ◌<◌, ◌&&◌, Bool, true, false, not, nat_eq}
use Rattle.std.specs.Prelude.{nat_lt, if◌then◌else◌, All, Contains, List, [], ◌∷◌, ◌++◌, length}
use Rattle.std.specs.Prelude.{map, filter, fold, slice_index_or, Option, None}
use Rattle.std.specs.Global.{Vec}
use Rattle.std.specs.List.{list_any, position_from}
use Rattle.std.specs.Option.{option_map_or}
use Rattle.std.specs.Str.{bytes_eq}
use Rattle.order_laws.specs.declared.items.Item.{Item}
use Rattle.order_laws.specs.Orders.{half_open}
use Rattle.order_laws.specs.Tables.{look}
use Rattle.modules.specs.Entries.{SymbolEntry}
use Rattle.modules.specs.Listed.{ListedSymbol}
use Rattle.modules.specs.MarkedModules.{numbered_module, ranges_of}
use Rattle.modules.specs.Owners.{is_outside}
use Rattle.modules.specs.Placed.{PlacedModule}
use Rattle.modules.specs.Regions.{lies_in_any}
use Rattle.modules.specs.declared.marks.Mark.{Mark}

-- the number of a name, from 1 on by its first place; 0 if it is not among the names
abbrev pub number_in : List (List ℕ) → List ℕ → ℕ
number_in names name = option_map_or suc (position_from (bytes_eq name) 0 names) 0

-- the number of a line's module; 0 for the kernel itself
abbrev pub number_for : List (List ℕ) → Option (List ℕ) → ℕ
number_for names owner = option_map_or (number_in names) owner 0

-- the name of a number, from 1 on
abbrev pub name_of : List (List ℕ) → ℕ → List ℕ
name_of names number = slice_index_or names (number - 1) []

-- the mark of a line
abbrev pub mark_of : List (List ℕ) → ListedSymbol → Mark
mark_of names l = record { addr = l.addr; owner = number_for names l.owner }

-- the marks of the kernel itself, at the first address of each of its regions
abbrev pub kernel_marks : List (ℕ × ℕ) → List Mark
kernel_marks kernel = map (λ r. record { addr = r.0; owner = 0 }) kernel

-- the marks of the lines of modules outside the kernel's regions
abbrev pub line_marks : List (ℕ × ℕ) → List (List ℕ) → List ListedSymbol → List Mark
line_marks kernel names lines = map (mark_of names) (filter (is_outside kernel) lines)

-- all marks, first the marks of the kernel itself
abbrev pub marks_of : List (ℕ × ℕ) → List (List ℕ) → List ListedSymbol → List Mark
marks_of kernel names lines = kernel_marks kernel ++ line_marks kernel names lines

-- an address outside the kernel's regions, and below the greatest, which no region holds
abbrev pub is_free : List (ℕ × ℕ) → ℕ → Bool
is_free kernel addr = not (lies_in_any kernel addr) && nat_lt addr (2 ^ 64 - 1)

-- the marks of symbols of the module of this number
abbrev pub symbol_marks : List (ℕ × ℕ) → ℕ → List SymbolEntry → List Mark
symbol_marks kernel owner symbols =
    map (λ s. record { addr = s.addr; owner = owner }) (filter (λ s. is_free kernel s.addr) symbols)

-- the region has an address, and a line without a module is at its first
abbrev pub HasFirstLine : List ListedSymbol → ℕ × ℕ → Type 0
HasFirstLine lines r =
    (r.0 < r.1) × ((l : ListedSymbol) × Contains lines l × (l.owner ≡ None) × (l.addr ≡ r.0))

-- so it is of all of these regions
abbrev pub HaveFirstLines : List (ℕ × ℕ) → List ListedSymbol → Type 0
HaveFirstLines regions lines = All (HasFirstLine lines) regions

-- the modules of the lines are among these names
abbrev pub AreNamed : List (List ℕ) → List ListedSymbol → Type 0
AreNamed names lines =
    All (λ l. option_map_or (λ name. list_any (bytes_eq name) names) l.owner true ≡ true) lines

-- the address of the mark is its owner's
abbrev pub is_kept_mark : List Item → Mark → Bool
is_kept_mark items m = option_map_or (λ i. nat_eq i.tag m.owner) (look half_open m.addr items) false

-- the numbers with this one after them, if it is not among them
abbrev pub with_number : List ℕ → ℕ → List ℕ
with_number numbers n = if list_any (nat_eq n) numbers then numbers else numbers ++ n ∷ []

-- the owners in the order of their first marks whose addresses are theirs
abbrev pub kept_numbers : List Item → List Mark → List ℕ
kept_numbers items marks =
    fold with_number [] (map (λ m. m.owner) (filter (is_kept_mark items) marks))

-- a list for each number below this one: empty if the number is among the taken ones, and else with
-- the ranges of its items
abbrev pub AreLeft : ℕ → List Item → List ℕ → List (Vec (ℕ × ℕ)) → Type 0
AreLeft count items taken lists =
    (length lists ≡ count)
    × ((n : ℕ) (d : Vec (ℕ × ℕ)) → n < count
    → (slice_index_or lists n d).items
    ≡ (if list_any (nat_eq n) taken then [] else ranges_of n items))

-- the modules of these numbers
abbrev pub modules_numbered : List (List ℕ) → List Item → List ℕ → List PlacedModule
modules_numbered names items numbers =
    map (λ n. numbered_module n (name_of names n) items) numbers
