use Rattle.latch_core.proofs.Words.{◌≡◌, ◌≤◌, drop, some_overlap}
use Rattle.std.proofs.Common.{◌-◌}
use Rattle.latch_core.proofs.clashes.has_overlapping_neighbours.Given as goal

abbrev pub invariant-loop-place : goal.invariant-loop-place
invariant-loop-place g l =
    record {
      some : 1 ≤ l.place;
      same : some_overlap g.O.TreeOrder.order (drop (l.place - 1) l.items)
          ≡ some_overlap g.O.TreeOrder.order l.items;
    }
