-- The modules of a listing of symbols alone, and their regions.
use Rattle.std.specs.Prelude.{◌≡◌, ℕ, ◌-◌, ◌<◌, ◌^◌, ◌↔◌, Bool, true, false, All}
use Rattle.std.specs.Prelude.{List, [], map, fold, filter, Option, Some}
use Rattle.std.specs.List.{AllPairs, flat_map}
use Rattle.std.specs.Option.{option_map_or, option_to_list}
use Rattle.std.specs.Str.{bytes_eq}
use Rattle.modules.specs.Accepted.{Accepted, names_of}
use Rattle.modules.specs.Kept.{lies_in}
use Rattle.modules.specs.Lines.{kernel_regions}
use Rattle.modules.specs.Listed.{BoundNames, ListedSymbol}
use Rattle.modules.specs.Names.{with_name}
use Rattle.modules.specs.Owners.{module_of_address, posts}
use Rattle.modules.specs.Placed.{PlacedModule}
use Rattle.modules.specs.declared.lines.Part.TheVariants.{Core}

-- a line of the module whose its address is
abbrev pub is_kept_line : List ListedSymbol → ListedSymbol → Bool
is_kept_line lines l =
    option_map_or
    (λ name. option_map_or (bytes_eq name) (module_of_address lines l.addr) false)
    l.owner false

-- the names of the modules in the order of their first kept lines
abbrev pub owner_names : List ListedSymbol → List (List ℕ)
owner_names lines =
    fold with_name [] (flat_map (λ l. option_to_list l.owner) (filter (is_kept_line lines) lines))

-- the regions of a module by rising address, with addresses between any two; they hold the
-- addresses that are the module's, and are of its core
pub record HasItsRegions (lines : List ListedSymbol) (m : PlacedModule) : Type 0 where
  pub valid : All (λ r. r.0 < r.1) m.regions
  pub longest : AllPairs (λ r s. r.1 < s.0) m.regions
  pub exact : (addr : ℕ)
      → (lies_in m addr ≡ true)
      ↔ ((addr < 2 ^ 64 - 1) × (module_of_address lines addr ≡ Some m.name))
  pub parts : m.parts ≡ map (λ _. Core) m.regions

-- what a listing of symbols alone says of the kernel itself and of the modules
pub record IsFromSymbols (names : Option BoundNames) (lines : List ListedSymbol)
    (a : Accepted) : Type 0 where
  pub kernel : a.built_in ≡ kernel_regions names lines
  pub named : names_of a.modules ≡ owner_names (posts (kernel_regions names lines) lines)
  pub regions : All (HasItsRegions (posts (kernel_regions names lines) lines)) a.modules
  pub double : a.double ≡ 0
  pub overlap : a.overlap ≡ 0
