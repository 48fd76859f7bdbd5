use Rattle.modules.proofs.Words.{◌≡◌, ◌++◌, into_iter_items}
use Rattle.modules.proofs.Definitions.{lines_of_all}
use Rattle.modules.specs.SharedRuns.{IsParted}
use Rattle.modules.proofs.shared_listings.parted_runs.Given as goal

abbrev pub invariant-loop-run : goal.invariant-loop-run
invariant-loop-run l = record {
  can_next : (goal.iterator-loop-run).can_next l.run-iterator;
  finite : (goal.iterator-loop-run).is_finite l.run-iterator;
  gone : l.fn.runs.items ≡ l.yielded ++ into_iter_items l.run-iterator;
  parted : IsParted (lines_of_all l.yielded) l.parted;
}
