use Rattle.latchsym_ffi.proofs.Words.{List, [], ℕ, ap, slice_set, ◌∙◌, slice_index_or, ViewSymbol}
use Rattle.latchsym_ffi.proofs.MapLemmas.{map_more}
use Rattle.latchsym_ffi.proofs.flattening.list_addresses.Goals as goal

pub loop-place-preserved : goal.loop-place-preserved
loop-place-preserved c =
    let rows = c.args.rows.now in
    let n = c.loop-place.place in
    let d : ViewSymbol =
    record { addr = 0; place = 0; name = record { ref_ptr = (0, 0); now = [] } } in
    ap (λ (l : List ℕ). slice_set l n (slice_index_or rows n d).addr) c.loop-place.invariant
    ∙ map_more (λ (r : ViewSymbol). r.addr) rows c.args.addresses.now n d c.loop-place-test.true
    c.requires
