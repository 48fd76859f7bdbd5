use Rattle.texts.proofs.Words.{◌≡◌, ◌≤◌, ◌<◌, ◌+◌, ◌-◌, ◌^◌, drop, false, digits_onto}
use Rattle.std.specs.Fmt.{digits}
use Rattle.texts.proofs.exact.write_digits.Given as goal

-- the digits of what is left go before those that are written
abbrev pub invariant-loop-start : goal.invariant-loop-start
invariant-loop-start l = record {
  told : digits_onto (46 + l.start) 16 false l.left (drop l.start l.buffer) ≡ digits 16 false l.n;
  small : l.left < 16 ^ (l.start - 2);
  low : 3 ≤ l.start;
  high : l.start ≤ 18;
}

abbrev pub decreases-loop-start : goal.decreases-loop-start
decreases-loop-start l = l.start
