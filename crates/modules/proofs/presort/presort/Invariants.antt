use Rattle.std.specs.List.Sorted.{IsPermutation}
use Rattle.modules.proofs.presort.presort.Given as goal

abbrev pub invariant-loop-place : goal.invariant-loop-place
invariant-loop-place l = IsPermutation l.fn.entries l.entries
