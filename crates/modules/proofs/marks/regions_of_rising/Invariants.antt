use Rattle.modules.proofs.Words.{◌≤◌, ◌<◌, ℕ, ◌↔◌, All}
use Rattle.modules.proofs.Definitions.{AreLaid, HoldsFor, Owns}
use Rattle.modules.proofs.SweepLemmas.{IsFrom}
use Rattle.modules.proofs.marks.regions_of_rising.Given as goal

abbrev pub invariant-loop-mark : goal.invariant-loop-mark
invariant-loop-mark l = record {
  laid : AreLaid l.items.items;
  ends : All (λ i. i.b ≤ l.from.addr) l.items.items;
  exact : (m x : ℕ) → HoldsFor l.items.items m x ↔ ((x < l.from.addr) × Owns l.marks m x);
  head : IsFrom l.marks l.mark-index l.from;
}
