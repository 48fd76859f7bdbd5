use Rattle.latchsym_ffi.proofs.Words.{slice_index_or, slice_set, ◌∙◌, ap, Item, item_told}
use Rattle.latchsym_ffi.proofs.MapLemmas.{map_more}
use Rattle.latchsym_ffi.proofs.replacing.put_items.Goals as goal

pub loop-place-preserved : goal.loop-place-preserved
loop-place-preserved c =
    let n = c.loop-place.place in
    let none : Item = record { a = 0; b = 0; tag = 0 } in
    ap (λ l. slice_set l n (item_told (slice_index_or c.args.items.now n none)))
    c.loop-place.invariant
    ∙ map_more item_told c.args.items.now c.args.out.now n none c.loop-place-test.true c.requires
