use Rattle.shared_lookup.proofs.Words.{◌≡◌, length, take, IsTalliedBy}
use Rattle.shared_lookup.proofs.outcomes.tally.Given as goal

abbrev pub invariant-loop-outcome : goal.invariant-loop-outcome
invariant-loop-outcome l =
    record {
      length : length l.times ≡ length l.fn.times;
      tallied : IsTalliedBy l.from (take l.outcome-index l.outcomes) l.fn.times l.times;
    }
