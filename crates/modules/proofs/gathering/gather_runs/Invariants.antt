use Rattle.modules.proofs.Words.{map, take}
use Rattle.modules.proofs.Definitions.{Gathers}
use Rattle.modules.specs.Gathering.{gathered_in}
use Rattle.modules.specs.SharedRuns.{lines_of_shared}
use Rattle.modules.proofs.gathering.gather_runs.Given as goal

abbrev pub invariant-loop-run : goal.invariant-loop-run
invariant-loop-run l =
    Gathers l.placed (lines_of_shared (take l.run-index l.runs)) (map gathered_in l.lists.items)
