-- The parts of a module.
use Rattle.std.specs.Prelude.{Bool, true, false}
use Rattle.modules.specs.declared.lines.Part.{Part}
use Rattle.modules.specs.declared.lines.Part.TheVariants.{Core, Init}

-- what stays while the module is loaded
abbrev pub is_core : Part → Bool
is_core Core = true
is_core Init = false

-- what its start alone needs
abbrev pub is_init : Part → Bool
is_init Core = false
is_init Init = true

-- one of the parts that are asked for
abbrev pub is_of : Bool → Bool → Part → Bool
is_of core init Core = core
is_of core init Init = init
