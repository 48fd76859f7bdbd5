use Rattle.logs.proofs.Definitions.{◌≡◌, ◌≤◌, ◌<◌, true, slice_index_or, is_address_byte}
use Rattle.std.proofs.Common.{◌-◌}
use Rattle.logs.proofs.words.last_other.Given as goal

abbrev pub invariant-loop-place : goal.invariant-loop-place
invariant-loop-place l = record {
  from : l.start ≤ l.place;
  within : l.place ≤ l.stop;
  byte : l.place < l.stop → is_address_byte (slice_index_or l.line l.place 0) ≡ true;
}

abbrev pub decreases-loop-place : goal.decreases-loop-place
decreases-loop-place l = l.place - l.start
