use Rattle.shared_lookup.proofs.Words.{◌≡◌, ◌++◌, length, take, vec_capacity, into_iter_items}
use Rattle.shared_lookup.proofs.Words.{EachFollowsLog, EachHasOutcome}
use Rattle.std.proofs.Common.{◌≤◌}
use Rattle.shared_lookup.proofs.meetings.settle_all.Given as goal

abbrev pub invariant-loop-made : goal.invariant-loop-made
invariant-loop-made l =
    record {
      gone : l.fn.all.items ≡ l.yielded ++ into_iter_items l.made-iterator;
      same : l.ledger ≡ l.fn.ledger;
      outcomes : EachHasOutcome l._c (take (length l.yielded) l.changes) l.outcomes.items;
      follow : EachFollowsLog l._c l.fn.ledger (take (length l.yielded) l.changes) l.outcomes.items;
      long : length l.changes ≤ vec_capacity l.outcomes;
    }
