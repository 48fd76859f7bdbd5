use Rattle.modules.proofs.Words.{◌≡◌, ◌+◌, length, take}
use Rattle.modules.specs.SharedRuns.{lines_of_shared}
use Rattle.modules.proofs.shared_listings.count_of.Given as goal

abbrev pub invariant-loop-run : goal.invariant-loop-run
invariant-loop-run l =
    l.count ≡ l.kernel_lines + length (lines_of_shared (take l.run-index l.runs))
