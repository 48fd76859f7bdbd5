use Rattle.shared_lookup.proofs.Words.{range_with_len, CountsUpTo, IsWrongEntry, entries}
use Rattle.shared_lookup.proofs.outcomes.wrong_behind.Given as goal

abbrev pub invariant-loop-time : goal.invariant-loop-time
invariant-loop-time l =
    CountsUpTo (IsWrongEntry (entries l.outcomes)) (range_with_len l.from l.time-index) l.wrong
