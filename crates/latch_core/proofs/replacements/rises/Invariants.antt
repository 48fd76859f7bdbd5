use Rattle.latch_core.proofs.Words.{◌≡◌, ◌≤◌, drop, is_rising}
use Rattle.std.proofs.Common.{◌-◌}
use Rattle.latch_core.proofs.replacements.rises.Given as goal

abbrev pub invariant-loop-place : goal.invariant-loop-place
invariant-loop-place g l =
    record {
      some : 1 ≤ l.place;
      same : is_rising g.O.TreeOrder.order (drop (l.place - 1) l.items)
          ≡ is_rising g.O.TreeOrder.order l.items;
    }
