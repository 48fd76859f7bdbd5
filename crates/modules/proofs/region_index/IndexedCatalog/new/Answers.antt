use Rattle.modules.proofs.Words.{List, subst, rules, IsPermutation}
use Rattle.modules.proofs.Words.{IsNonDecreasingBy-from_sort_by_key, Item}
use Rattle.modules.proofs.region_index.IndexedCatalog.new.Goals as goal

pub invariant_of-result : goal.invariant_of-result
invariant_of-result c =
    record {
      sound = c.stays_sound.ensures;
      indexed = record {
        same = subst (λ (l : List Item). IsPermutation l c.sort_unstable_by_key.new.self.items)
            c.in_ok-items.ensures c.sort_unstable_by_key.ensures.permutation;
        rising = IsNonDecreasingBy-from_sort_by_key (λ (i : Item). i.a)
            c.sort_unstable_by_key.new.self.items c.sort_unstable_by_key.ensures.sorted
            (λ a r q k. search rules);
      };
    }
