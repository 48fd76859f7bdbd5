use Rattle.histories.proofs.Words.{◌≡◌, ◌≤◌, ◌-◌, drop, first_time}
use Rattle.histories.proofs.line_times.first_up_to.Given as goal

-- no time begins before this place
abbrev pub invariant-loop-i : goal.invariant-loop-i
invariant-loop-i l = record {
  within : l.i ≤ l.point;
  found : first_time l.before (drop l.i l.bytes) ≡ first_time l.fn.before l.bytes;
}

abbrev pub decreases-loop-i : goal.decreases-loop-i
decreases-loop-i l = l.point - l.i
