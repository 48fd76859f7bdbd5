use Rattle.shared_lookup.proofs.Words.{◌≡◌, ◌++◌, length, take, Some, All, vec_capacity}
use Rattle.shared_lookup.proofs.Words.{into_iter_items, AreChanging}
use Rattle.std.proofs.Common.{◌≤◌}
use Rattle.shared_lookup.proofs.lists.start_writers.Given as goal

abbrev pub invariant-loop-list : goal.invariant-loop-list
invariant-loop-list g l =
    record {
      gone : l.fn.lists.items ≡ l.yielded ++ into_iter_items l.list-iterator;
      started : AreChanging l.changer (take (length l.yielded) l.changes) l.writers.items;
      seats : All (λ r. g.W.Changer.table l.changer ≡ Some r.place) l.seats.items;
      long : length l.changes ≤ vec_capacity l.writers;
    }
