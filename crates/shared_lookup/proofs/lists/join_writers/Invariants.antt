use Rattle.shared_lookup.proofs.Words.{◌≡◌, ◌++◌, length, take, vec_capacity, into_iter_items}
use Rattle.shared_lookup.proofs.Words.{AreAllMade}
use Rattle.std.proofs.Common.{◌≤◌}
use Rattle.shared_lookup.proofs.lists.join_writers.Given as goal

abbrev pub invariant-loop-writer : goal.invariant-loop-writer
invariant-loop-writer g l =
    record {
      gone : l.fn.writers.items ≡ l.yielded ++ into_iter_items l.writer-iterator;
      made : AreAllMade (g.W.Changer.table l.changer) (g.W.Changer.opened l.changer)
          (g.W.Changer.catalog l.changer) (take (length l.yielded) l.changes) l.made.items;
      long : length l.changes ≤ vec_capacity l.made;
    }
