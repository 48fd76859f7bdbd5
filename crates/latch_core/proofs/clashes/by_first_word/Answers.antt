use Rattle.latch_core.proofs.Words.{rules, IsNonDecreasingBy-from_sort_by_key, Item}
use Rattle.latch_core.proofs.clashes.by_first_word.Goals as goal

pub returns-clause-sorted : goal.returns-clause-sorted
returns-clause-sorted c =
    IsNonDecreasingBy-from_sort_by_key (λ (i : Item). i.a) c.sort_unstable_by_key.new.self.items
    c.sort_unstable_by_key.ensures.sorted (λ a r q k. search rules)
