use Rattle.logs.proofs.Definitions.{◌≡◌, ◌≤◌, length, prefix_up_to}
use Rattle.logs.proofs.places.prefix_end.Given as goal

abbrev pub invariant-loop-end : goal.invariant-loop-end
invariant-loop-end l = record {
  within : l.end ≤ length l.bytes;
  prefix : prefix_up_to l.at_start l.bytes (length l.bytes) ≡ prefix_up_to l.at_start l.bytes l.end;
}

abbrev pub decreases-loop-end : goal.decreases-loop-end
decreases-loop-end l = l.end
