use Rattle.shared_lookup.proofs.Words.{take, zip, CountsUpTo, IsWrongChange}
use Rattle.shared_lookup.proofs.outcomes.wrong_in_list.Given as goal

abbrev pub invariant-loop-place : goal.invariant-loop-place
invariant-loop-place l =
    CountsUpTo (IsWrongChange l.c l.log) (take l.place (zip l.changes l.outcomes)) l.wrong
