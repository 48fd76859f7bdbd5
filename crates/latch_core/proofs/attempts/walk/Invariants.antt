use Rattle.latch_core.proofs.Words.{◌≡◌, ◌+◌, capacity_of, left_word, stable_copy_of}
use Rattle.std.proofs.Common.{◌-◌, ◌*◌}
use Rattle.latch_core.proofs.LoadingLemmas.{IsOn}
use Rattle.latch_core.proofs.attempts.walk.Given as goal

abbrev pub invariant-loop-link : goal.invariant-loop-link
invariant-loop-link g l =
    record {
      left : l.left ≡ left_word (stable_copy_of l.first) 0;
      on : IsOn (g.W.Loads.load_gives l.words) g.O.TreeOrder.order (capacity_of l.fn.l) l.fn.key
          l.first l.fn.seat l.seat l.loads l.link;
    }

abbrev pub decreases-loop-link : goal.decreases-loop-link
decreases-loop-link g l = 4 * capacity_of l.fn.l + 6 - l.loads
