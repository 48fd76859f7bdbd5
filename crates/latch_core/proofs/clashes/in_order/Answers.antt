use Rattle.latch_core.proofs.Words.{IsNonDecreasingBy-from_sort}
use Rattle.latch_core.proofs.clashes.in_order.Goals as goal

pub returns-clause-sorted : goal.returns-clause-sorted
returns-clause-sorted c = IsNonDecreasingBy-from_sort (λ a. a) c.sort_unstable.new.self.items
    c.sort_unstable.ensures.sorted
