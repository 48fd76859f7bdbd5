use Rattle.modules.proofs.Words.{◌≡◌, ◌++◌, filter, take}
use Rattle.modules.specs.ListingParts.{is_unnamed}
use Rattle.modules.specs.SharedRuns.{lines_of_shared}
use Rattle.modules.proofs.shared_listings.push_unnamed.Given as goal

abbrev pub invariant-loop-run : goal.invariant-loop-run
invariant-loop-run l = lines_of_shared l.runs.items ≡ lines_of_shared l.fn.runs.items
    ++ filter (is_unnamed l.named) (lines_of_shared (take l.run-index l.listed))
