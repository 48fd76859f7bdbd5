use Rattle.histories.proofs.Words.{◌≡◌, ◌≤◌, ◌<◌, ◌+◌, ◌-◌, ◌^◌, drop, take, length, prefix_len}
use Rattle.histories.proofs.Words.{digits_value, is_decimal}
use Rattle.histories.proofs.times.digits_in.Given as goal

abbrev pub invariant-loop-i : goal.invariant-loop-i
invariant-loop-i l = record {
  within : l.i ≤ length l.bytes;
  few : length l.bytes ≤ 10;
  value : l.value ≡ digits_value 10 (take l.i l.bytes);
  fits : l.value < 10 ^ l.i;
  run : prefix_len is_decimal l.bytes ≡ l.i + prefix_len is_decimal (drop l.i l.bytes);
}

abbrev pub decreases-loop-i : goal.decreases-loop-i
decreases-loop-i l = length l.bytes - l.i
