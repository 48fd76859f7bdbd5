use Rattle.latchsym_ffi.proofs.Words.{◌≡◌, ◌≤◌, ◌++◌, ◌∙◌, [], ap, arith, length, map, sym, take}
use Rattle.latchsym_ffi.proofs.Words.{option_map_or, take_all, items_at, items_below, item_of}
use Rattle.latchsym_ffi.proofs.Words.{one_number_more}
use Rattle.latchsym_ffi.proofs.flattening.put_regions.Goals as goal

pub returns-clause-put : goal.returns-clause-put
returns-clause-put c = λ entries there are below.
    let n = c.args.number in
    let regions = c.args.owner.now.regions in
    let index = c.loop-region.region-index in
    let done = c.loop-region.invariant in
    let listed = ap length c.regions-region-items.ensures.regions in
    let all : length regions ≤ index =
    omega (arith, listed, c.loop-region-test.false, c.loop-region.auto.region-index-end) in
    let at : items_at entries n ≡ map (item_of n) regions =
    ap (λ o. option_map_or (λ m. map (item_of n) m.regions) o []) there in
    record {
      items = done.2 ∙ ap (λ l. l ++ map (item_of n) (take index regions)) below.items
          ∙ ap (λ l. items_below entries n ++ map (item_of n) l) (take_all index regions all)
          ∙ ap (λ l. items_below entries n ++ l) (sym at)
          ∙ sym (one_number_more entries n);
      each = done.3 entries there are below.each;
    }
