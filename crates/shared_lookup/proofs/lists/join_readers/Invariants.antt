use Rattle.shared_lookup.proofs.Words.{◌≡◌, ◌++◌, length, take, vec_capacity, into_iter_items}
use Rattle.shared_lookup.proofs.Words.{AreHeard}
use Rattle.std.proofs.Common.{◌≤◌}
use Rattle.shared_lookup.proofs.lists.join_readers.Given as goal

abbrev pub invariant-loop-reader : goal.invariant-loop-reader
invariant-loop-reader g l =
    record {
      gone : l.fn.readers.items ≡ l.yielded ++ into_iter_items l.reader-iterator;
      heard : AreHeard (g.W.Changer.table l.changer) (take (length l.yielded) l.keys) l.heard.items;
      long : length l.keys ≤ vec_capacity l.heard;
    }
