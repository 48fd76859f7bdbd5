-- Modules made of their places and lists of symbols.
use Rattle.std.specs.Prelude.{◌≡◌, ℕ, ◌<◌, List, [], ◌∷◌, length, map, slice_index_or}
use Rattle.std.specs.Prelude.{codes, Option, Some, None}
use Rattle.modules.specs.Entries.{ModuleEntry, SymbolEntry}
use Rattle.modules.specs.Placed.{PlacedModule}
use Rattle.modules.specs.declared.lines.Part.TheVariants.{Core}

-- the kernel itself in its regions, which are of its core
abbrev pub kernel_at : List (ℕ × ℕ) → PlacedModule
kernel_at regions =
    record { name = codes "-"; regions = regions; parts = map (λ _. Core) regions }

-- a placed module with these symbols
abbrev pub module_with : PlacedModule → List SymbolEntry → ModuleEntry
module_with m symbols = record {
  name = m.name;
  regions = m.regions;
  parts = m.parts;
  symbols = symbols;
}

-- a module without its symbols
abbrev pub placed_module_of : ModuleEntry → PlacedModule
placed_module_of m = record { name = m.name; regions = m.regions; parts = m.parts }

-- the kernel itself with these symbols, if it has regions
abbrev pub built_in_with : List (ℕ × ℕ) → List SymbolEntry → Option ModuleEntry
built_in_with [] symbols = None
built_in_with (r ∷ rs) symbols = Some (module_with (kernel_at (r ∷ rs)) symbols)

-- for each list the module at its place, with the list
abbrev pub EachMade : List PlacedModule → List (List SymbolEntry) → List ModuleEntry → Type 0
EachMade places lists modules = (j : ℕ) (p : PlacedModule) (d : List SymbolEntry) (m : ModuleEntry)
    → j < length lists
    → slice_index_or modules j m
    ≡ module_with (slice_index_or places j p) (slice_index_or lists j d)

pub record AreModules (places : List PlacedModule) (lists : List (List SymbolEntry))
    (modules : List ModuleEntry) : Type 0 where
  pub same : length modules ≡ length lists
  pub each : EachMade places lists modules
