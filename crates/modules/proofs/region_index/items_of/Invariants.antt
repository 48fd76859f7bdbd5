use Rattle.modules.proofs.Words.{◌≡◌}
use Rattle.modules.specs.Items.{items_below}
use Rattle.modules.proofs.region_index.items_of.Given as goal

abbrev pub invariant-loop-number : goal.invariant-loop-number
invariant-loop-number l = l.items.items ≡ items_below l.catalog l.number
