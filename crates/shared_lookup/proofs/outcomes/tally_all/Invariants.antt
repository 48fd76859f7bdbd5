use Rattle.shared_lookup.proofs.Words.{◌≡◌, length, take, AreTallied, entries}
use Rattle.shared_lookup.proofs.outcomes.tally_all.Given as goal

abbrev pub invariant-loop-list : goal.invariant-loop-list
invariant-loop-list l =
    record {
      length : length l.times ≡ length l.fn.times;
      tallied : AreTallied l.from (entries (take l.list-index l.outcomes)) l.times;
    }
