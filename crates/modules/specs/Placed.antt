-- The regions of the modules of the listing.
use Rattle.std.specs.Prelude.{◌≡◌, ℕ, ◌<◌, Bool, true, All, List, [], ◌∷◌, length, map, filter}
use Rattle.std.specs.Prelude.{nat_le, if◌then◌else◌}
use Rattle.std.specs.List.{list_any, list_all}
use Rattle.std.specs.Str.{bytes_eq}
use Rattle.modules.specs.Lines.{region_line_region, module_line_region}
use Rattle.modules.specs.Listed.{ListedModule, ListedRegion}
use Rattle.modules.specs.Parts.{is_core}
use Rattle.modules.specs.declared.lines.Part.{Part}
use Rattle.modules.specs.declared.lines.Part.TheVariants.{Core}

-- a module, its regions in their order, and the part that each of them is
pub record PlacedModule : Type 0 where
  pub name : List ℕ
  pub regions : List (ℕ × ℕ)
  pub parts : List Part

-- the region lines of this name
abbrev pub lines_named : List ℕ → List ListedRegion → List ListedRegion
lines_named name regions = filter (λ r. bytes_eq r.name name) regions

-- a line of these is of a core region
abbrev pub has_core : List ListedRegion → Bool
has_core lines = list_any (λ r. is_core r.part) lines

-- no more than seven region lines have one name
abbrev pub are_few : List ListedRegion → Bool
are_few regions = list_all (λ r. nat_le (length (lines_named r.name regions)) 7) regions

-- a module in the region of its own line
abbrev pub placed_alone : ListedModule → PlacedModule
placed_alone line =
    record { name = line.name; regions = module_line_region line ∷ []; parts = Core ∷ [] }

-- a module in the regions of region lines
abbrev pub placed_by : List ListedRegion → ListedModule → PlacedModule
placed_by lines line = record {
  name = line.name;
  regions = map region_line_region lines;
  parts = map (λ r. r.part) lines;
}

-- a module lies in the regions of the region lines of its name if one of them is of a core region,
-- and else in the region of its own line
abbrev pub placed_with : List ListedRegion → ListedModule → PlacedModule
placed_with lines line = if has_core lines then placed_by lines line else placed_alone line

abbrev pub placed_line : List ListedRegion → ListedModule → PlacedModule
placed_line regions line = placed_with (lines_named line.name regions) line

-- each region of the module has an address, and one of them is a core region
pub record IsPlaced (m : PlacedModule) : Type 0 where
  pub same : length m.parts ≡ length m.regions
  pub some_core : list_any is_core m.parts ≡ true
  pub valid : All (λ r. r.0 < r.1) m.regions
