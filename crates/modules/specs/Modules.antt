-- What a module holds.
use Rattle.modules.specs.Entries.{ModuleEntry}
use Rattle.modules.specs.Building.{placed_module_of}
use Rattle.modules.specs.Placed.{IsPlaced}
use Rattle.modules.specs.declared.module.Module.TheInside.{Inside}

abbrev pub module_view : Inside → ModuleEntry
module_view m = record {
  name = m.name.now;
  regions = m.regions.items;
  parts = m.parts.items;
  symbols = m.symbols;
}

-- it has regions of its core
abbrev pub IsWholeModule : Inside → Type 0
IsWholeModule m = IsPlaced (placed_module_of (module_view m))
