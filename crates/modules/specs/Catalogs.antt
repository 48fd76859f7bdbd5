-- The catalog of the listings, and what is asked of it.
use Rattle.std.specs.Prelude.{◌≡◌, ◌⊎◌, ◌<◌, false, ℕ, ◌+◌, ◌-◌, zero, suc, not, if◌then◌else◌}
use Rattle.std.specs.Prelude.{List, ◌++◌}
use Rattle.std.specs.Prelude.{length, slice_get, map, count_by, codes, All, Option, None, unwrap_or}
use Rattle.std.specs.List.{flat_map, position_from}
use Rattle.std.specs.Option.{option_map, option_to_list}
use Rattle.std.specs.Str.{bytes_eq}
use Rattle.order_laws.specs.declared.refusals.Refusal.{Refusal}
use Rattle.order_laws.specs.declared.refusals.Refusal.TheVariants.{OutOfMemory, TooManyRegions}
use Rattle.modules.specs.Accepted.{Accepted, accepted_of}
use Rattle.modules.specs.Building.{built_in_with, module_with, placed_module_of}
use Rattle.modules.specs.Entries.{CatalogEntries, ModuleEntry}
use Rattle.modules.specs.Kept.{AreDistinctNames, belongs, is_built_in, is_kept, is_used}
use Rattle.modules.specs.Kept.{symbols_that}
use Rattle.modules.specs.Lines.{kernel_regions}
use Rattle.modules.specs.Listed.{BoundNames, ListedModule, ListedRegion, ListedSymbol}
use Rattle.modules.specs.Names.{names_in}
use Rattle.modules.specs.Placed.{IsPlaced, PlacedModule, are_few}
use Rattle.modules.specs.Regions.{AreApart}
use Rattle.modules.specs.declared.catalog.BuildCounts.{BuildCounts}

-- the kernel itself, with the symbols that have no module and lie in its regions
abbrev pub built_in_of : List (ℕ × ℕ) → List ListedSymbol → Option ModuleEntry
built_in_of built_in symbols = built_in_with built_in (symbols_that (is_built_in built_in) symbols)

-- an accepted module, with the symbols that belong to it
abbrev pub entry_for : List ListedSymbol → PlacedModule → ModuleEntry
entry_for symbols m = module_with m (symbols_that (belongs m) symbols)

-- the kernel itself if it has regions, and the accepted modules
abbrev pub catalog_with : Accepted → List ListedSymbol → CatalogEntries
catalog_with a symbols = record {
  built_in = built_in_of a.built_in symbols;
  modules = map (entry_for symbols) a.modules;
}

-- those that lines of modules and of regions say
abbrev pub catalog_of : Option BoundNames → List ListedModule → List ListedRegion
    → List ListedSymbol → CatalogEntries
catalog_of names modules regions symbols =
    catalog_with (accepted_of (kernel_regions names symbols) regions modules) symbols

-- how many lines are used, and how many are not, by cause
abbrev pub counts_with : Accepted → List ListedRegion → List ListedSymbol → BuildCounts
counts_with a regions symbols = record {
  modules = length a.modules;
  double = a.double;
  overlap = a.overlap;
  regions = count_by (is_used a regions) regions;
  stray_regions = count_by (λ r. not (is_used a regions r)) regions;
  symbols = count_by (is_kept a) symbols;
  stray = count_by (λ s. not (is_kept a s)) symbols;
}

abbrev pub counts_of : Option BoundNames → List ListedModule → List ListedRegion
    → List ListedSymbol → BuildCounts
counts_of names modules regions symbols =
    counts_with (accepted_of (kernel_regions names symbols) regions modules) regions symbols

-- how many modules, how many regions these have, and how many symbols are kept and how many stray
abbrev pub kept_counts : Accepted → List ListedSymbol → BuildCounts
kept_counts a symbols = record {
  modules = length a.modules;
  double = 0;
  overlap = 0;
  regions = length (flat_map (λ m. m.regions) a.modules);
  stray_regions = 0;
  symbols = count_by (is_kept a) symbols;
  stray = count_by (λ s. not (is_kept a s)) symbols;
}

-- the counts if `listed` symbols are listed: the symbols that are not kept are stray
abbrev pub build_of_listed : ℕ → BuildCounts → BuildCounts
build_of_listed listed b = record b { stray = listed - b.symbols }

-- the kernel itself if it has regions, and then the modules
abbrev pub entries_of : CatalogEntries → List ModuleEntry
entries_of c = option_to_list c.built_in ++ c.modules

-- the regions of all of them
abbrev pub regions_of : CatalogEntries → List (ℕ × ℕ)
regions_of c = flat_map (λ m. m.regions) (entries_of c)

-- each module has a region of its core, all regions have addresses and lie apart, and no two
-- modules from number 1 on have one name
pub record IsSoundCatalog (c : CatalogEntries) : Type 0 where
  pub placed : All (λ m. IsPlaced (placed_module_of m)) (entries_of c)
  pub apart : AreApart (regions_of c)
  pub distinct : AreDistinctNames (names_in c.modules)

-- out of memory, or more than seven region lines of one name
abbrev pub IsBuildRefusal : List ListedRegion → Refusal → Type 0
IsBuildRefusal regions e =
    (e ≡ OutOfMemory) ⊎ ((e ≡ TooManyRegions) × (are_few regions ≡ false))

-- number 0 is the kernel itself, and the others are numbered from 1 on
abbrev pub module_of : CatalogEntries → ℕ → Option ModuleEntry
module_of c zero = c.built_in
module_of c (suc n) = slice_get c.modules n

-- `-` is number 0 alone
abbrev pub module_number_of : CatalogEntries → List ℕ → Option ℕ
module_number_of c name =
    if bytes_eq name (codes "-") then option_map (λ _. 0) c.built_in
    else option_map (λ place. place + 1) (position_from (bytes_eq name) 0 (names_in c.modules))

-- the number of a module that a catalog lacks
abbrev pub absent_module : ℕ
absent_module = 4294967295

-- the number of the module of this name, or the number of an absent one
abbrev pub number_for : CatalogEntries → List ℕ → ℕ
number_for c name = unwrap_or (module_number_of c name) absent_module

-- no module has the number of an absent one, as long as there are fewer regions
abbrev pub IsNoneAbsent : CatalogEntries → Type 0
IsNoneAbsent c = length (regions_of c) < absent_module → module_of c absent_module ≡ None
