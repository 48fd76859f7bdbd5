use Rattle.std.specs.List.Sorted.{IsPermutation}
use Rattle.modules.proofs.presort.distribute.Given as goal

abbrev pub invariant-loop : goal.invariant-loop
invariant-loop l = IsPermutation l.initial.entries l.entries
