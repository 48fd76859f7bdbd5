-- Which lines of the listing of modules are accepted.
use Rattle.std.specs.Prelude.{ℕ, ◌+◌, ◌&&◌, if◌then◌else◌, List, [], ◌∷◌, ◌++◌, map, fold}
use Rattle.std.specs.List.{flat_map, list_any}
use Rattle.std.specs.Str.{bytes_eq}
use Rattle.modules.specs.Listed.{ListedModule, ListedRegion}
use Rattle.modules.specs.Placed.{PlacedModule, placed_line}
use Rattle.modules.specs.Regions.{are_beside, lie_apart}

-- the regions of the kernel itself, the accepted modules in the order of their lines, how many
-- other lines have the name of one accepted before them, and how many of the rest have regions that
-- meet each other or those taken before them
pub record Accepted : Type 0 where
  pub built_in : List (ℕ × ℕ)
  pub modules : List PlacedModule
  pub double : ℕ
  pub overlap : ℕ

-- the names of the modules
abbrev pub names_of : List PlacedModule → List (List ℕ)
names_of modules = map (λ m. m.name) modules

-- the regions that are taken: the regions of the kernel itself, and of the accepted modules
abbrev pub taken_regions : Accepted → List (ℕ × ℕ)
taken_regions a = a.built_in ++ flat_map (λ m. m.regions) a.modules

-- the regions of the kernel itself and these modules, with no line that is not accepted
abbrev pub accepted_with : List (ℕ × ℕ) → List PlacedModule → Accepted
accepted_with built_in modules =
    record { built_in = built_in; modules = modules; double = 0; overlap = 0 }

abbrev pub none_yet : List (ℕ × ℕ) → Accepted
none_yet built_in = record { built_in = built_in; modules = []; double = 0; overlap = 0 }

-- a module is double, or else overlaps, or else is accepted
abbrev pub after_module : Accepted → PlacedModule → Accepted
after_module a m =
    if list_any (bytes_eq m.name) (names_of a.modules) then record a { double = a.double + 1 }
    else if lie_apart m.regions && are_beside (taken_regions a) m.regions
    then record a { modules = a.modules ++ m ∷ [] }
    else record a { overlap = a.overlap + 1 }

-- each line in turn, at the regions of its module
abbrev pub accepted_of : List (ℕ × ℕ) → List ListedRegion → List ListedModule → Accepted
accepted_of built_in regions lines =
    fold after_module (none_yet built_in) (map (placed_line regions) lines)
