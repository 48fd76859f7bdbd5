use Rattle.recordings.proofs.Words.{◌≡◌, ◌≤◌, ◌-◌, drop, length, event_after, event_in}
use Rattle.recordings.proofs.events.event_in.Given as goal

-- no event begins before this place
abbrev pub invariant-loop-i : goal.invariant-loop-i
invariant-loop-i l = record {
  within : l.i ≤ length l.line;
  found : event_after l.is_after_gap (drop l.i l.line) ≡ event_in l.line;
}

abbrev pub decreases-loop-i : goal.decreases-loop-i
decreases-loop-i l = length l.line - l.i
