use Rattle.shared_lookup.proofs.Words.{take, zip, CountsUpTo, IsWrongChange, entries}
use Rattle.shared_lookup.proofs.outcomes.wrong_changes.Given as goal

abbrev pub invariant-loop-place : goal.invariant-loop-place
invariant-loop-place l = CountsUpTo (IsWrongChange l.c l.log)
    (zip (entries (take l.place l.changes)) (entries (take l.place l.outcomes))) l.wrong
