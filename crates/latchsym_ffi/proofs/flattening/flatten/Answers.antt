use Rattle.latchsym_ffi.proofs.Words.{List, map, rules, subst, IsPermutation, All-permutation}
use Rattle.latchsym_ffi.proofs.Words.{IsNonDecreasingBy-from_sort_by_key, IsPermutation-map, Item}
use Rattle.latchsym_ffi.proofs.Words.{IsRegionRow, item_of_row, ViewRegion}
use Rattle.latchsym_ffi.proofs.FlatteningLemmas.{rising_shown}
use Rattle.latchsym_ffi.proofs.flattening.flatten.Goals as goal

pub invariant_of-result : goal.invariant_of-result
invariant_of-result c =
    record {
      rising = IsNonDecreasingBy-from_sort_by_key (λ (r : ViewRegion). r.a)
          c.sort_unstable_by_key.new.self c.sort_unstable_by_key.ensures.sorted
          (λ a r q k. search rules);
    }

pub returns : goal.returns
returns c =
    let sorted = c.sort_unstable_by_key.new.self in
    let moved = c.sort_unstable_by_key.ensures.permutation in
    let rises = IsNonDecreasingBy-from_sort_by_key (λ (r : ViewRegion). r.a) sorted
    c.sort_unstable_by_key.ensures.sorted (λ a r q k. search rules) in
    record {
      sound = c.stays_sound.ensures;
      indexed = record {
        same = subst (λ (l : List Item). IsPermutation l (map item_of_row sorted))
            c.put_all.ensures.items (IsPermutation-map item_of_row _ sorted moved);
        rising = rising_shown item_of_row (λ (i : Item). i.a) sorted rises;
      };
      each = All-permutation (IsRegionRow c.args.catalog.now) _ sorted moved c.put_all.ensures.each;
    }
