use Rattle.latch_core.proofs.Words.{◌≡◌, drop, some_twice}
use Rattle.latch_core.proofs.clashes.has_equal_entries.Given as goal

abbrev pub invariant-loop-place : goal.invariant-loop-place
invariant-loop-place l = some_twice (drop l.place l.words) ≡ some_twice l.words
