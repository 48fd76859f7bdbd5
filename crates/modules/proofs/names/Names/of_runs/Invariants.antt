use Rattle.modules.proofs.Words.{take}
use Rattle.modules.proofs.Definitions.{AreNamed}
use Rattle.modules.specs.SharedRuns.{lines_of_shared}
use Rattle.modules.proofs.names.Names.of_runs.Given as goal

abbrev pub invariant-loop-run : goal.invariant-loop-run
invariant-loop-run l = AreNamed l.names (lines_of_shared (take l.run-index l.runs))
