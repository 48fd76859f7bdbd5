use Rattle.latch_core.proofs.Words.{◌≡◌, ◌≤◌, drop, some_twice}
use Rattle.std.proofs.Common.{◌-◌}
use Rattle.latch_core.proofs.clashes.has_equal_neighbours.Given as goal

abbrev pub invariant-loop-place : goal.invariant-loop-place
invariant-loop-place l =
    record {
      some : 1 ≤ l.place;
      same : some_twice (drop (l.place - 1) l.words) ≡ some_twice l.words;
    }
