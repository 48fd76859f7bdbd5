use Rattle.shared_lookup.proofs.Words.{◌≡◌, ◌+◌, length, take, All, vec_capacity, vec_len}
use Rattle.shared_lookup.proofs.Words.{IsNewReaderOf, AreReading}
use Rattle.std.proofs.Common.{◌≤◌}
use Rattle.shared_lookup.proofs.lists.start_readers.Given as goal

abbrev pub invariant-loop-list : goal.invariant-loop-list
invariant-loop-list g l =
    record {
      left : vec_len l.seats + l.list-index ≡ length l.keys;
      seats : All (IsNewReaderOf (g.W.Changer.table l.changer)) l.seats.items;
      reading : AreReading l.changer (take l.list-index l.keys) l.readers.items;
      long : length l.keys ≤ vec_capacity l.readers;
    }
