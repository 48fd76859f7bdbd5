use Rattle.latch_core.proofs.Words.{◌≡◌, ◌∷◌, true, List, length, Item, is_rising, update_found}
use Rattle.std.proofs.Common.{◌-◌}
use Rattle.latch_core.proofs.replacements.Difference.pass_lesser.Given as goal

abbrev pub invariant-loop-self : goal.invariant-loop-self
invariant-loop-self g l =
    (more : List Item) → is_rising g.O.TreeOrder.order (l.item ∷ more) ≡ true
    → update_found l.self l.items (l.item ∷ more)
    ≡ update_found l.initial.self l.items (l.item ∷ more)

abbrev pub decreases-loop-self : goal.decreases-loop-self
decreases-loop-self g l = length l.items - l.self.place
