use Rattle.modules.proofs.Words.{◌≡◌, length, IsPermutation}
use Rattle.modules.proofs.presort.go_down.Given as goal

abbrev pub invariant-loop : goal.invariant-loop
invariant-loop l = record {
  same : IsPermutation l.initial.entries l.entries;
  len : length l.entries ≡ length l.initial.entries;
}
