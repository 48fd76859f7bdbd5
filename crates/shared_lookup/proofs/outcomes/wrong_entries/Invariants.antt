use Rattle.shared_lookup.proofs.Words.{◌≡◌, ◌-◌, length, range_with_len, CountsUpTo, IsWrongEntry}
use Rattle.shared_lookup.proofs.Words.{entries}
use Rattle.std.proofs.Common.{◌≤◌}
use Rattle.shared_lookup.proofs.outcomes.wrong_entries.Given as goal

abbrev pub invariant-loop-from : goal.invariant-loop-from
invariant-loop-from l =
    record {
      within : l.from ≤ l.count;
      length : length l.times ≡ length l.fn.times;
      counted : CountsUpTo (IsWrongEntry (entries l.outcomes)) (range_with_len 0 l.from) l.wrong;
    }

abbrev pub decreases-loop-from : goal.decreases-loop-from
decreases-loop-from l = l.count - l.from
