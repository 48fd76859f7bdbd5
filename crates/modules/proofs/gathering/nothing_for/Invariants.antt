use Rattle.modules.proofs.Words.{◌≡◌, [], length, All}
use Rattle.modules.specs.Gathering.{gathered_in}
use Rattle.modules.proofs.gathering.nothing_for.Given as goal

abbrev pub invariant-loop : goal.invariant-loop
invariant-loop l = record {
  count : length l.lists.items ≡ l.counter;
  empty : All (λ g. gathered_in g ≡ []) l.lists.items;
}
