use Rattle.shared_lookup.proofs.Words.{rules, subst, Bor, IsNonDecreasingBy-from_sort_by_key}
use Rattle.shared_lookup.proofs.Words.{IsPermutation-map, answers_at, Answer}
use Rattle.std.specs.List.Sorted.{IsPermutation}
use Rattle.shared_lookup.proofs.replays.by_generation.Goals as goal

pub returns-clause-permutation : goal.returns-clause-permutation
returns-clause-permutation c =
    let sorted = c.sort_unstable_by_key.new.self.items in
    subst (λ xs. IsPermutation xs (answers_at sorted)) c.in_ok-all.ensures
    (IsPermutation-map (λ (a : Bor Answer). a.now) c.in_ok-all.all.items sorted
    c.sort_unstable_by_key.ensures.permutation)

pub returns-clause-ordered : goal.returns-clause-ordered
returns-clause-ordered c =
    IsNonDecreasingBy-from_sort_by_key (λ (a : Bor Answer). a.now.generation)
    c.sort_unstable_by_key.new.self.items
    c.sort_unstable_by_key.ensures.sorted (λ a r q k. search rules)
