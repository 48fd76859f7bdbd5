use Rattle.plain_updates.proofs.Words.{◌≡◌, drop, some_twice}
use Rattle.plain_updates.proofs.some_twice.Given as goal

abbrev pub invariant-loop-place : goal.invariant-loop-place
invariant-loop-place l = some_twice (drop l.place l.words) ≡ some_twice l.words
