use Rattle.modules.proofs.Words.{◌≡◌, take}
use Rattle.modules.specs.Accepted.{names_of}
use Rattle.modules.proofs.placed_modules.PlacedModules.of.Given as goal

abbrev pub invariant-loop-module : goal.invariant-loop-module
invariant-loop-module l = l.names ≡ names_of (take l.module-index l.fn.modules.items)
