use Rattle.histories.proofs.Words.{◌≡◌, ◌≤◌, length, line_time, first_time}
use Rattle.histories.proofs.line_times.line_time.Given as goal

-- the first time from here on is the line's
abbrev pub invariant-loop-point : goal.invariant-loop-point
invariant-loop-point l = record {
  shorter : length l.rest ≤ length l.line;
  found : line_time l.line ≡ first_time l.before l.rest;
}

abbrev pub decreases-loop-point : goal.decreases-loop-point
decreases-loop-point l = length l.rest
