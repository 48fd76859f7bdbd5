use Rattle.latchsym_ffi.proofs.Words.{◌≡◌, slice_set, get_or, ◌∙◌, ap, known_at, told_at, told_of}
use Rattle.latchsym_ffi.proofs.MapLemmas.{map_more}
use Rattle.latchsym_ffi.proofs.batches.answer_all.Goals as goal
use Rattle.latchsym_ffi.proofs.batches.answer_all.Goals.{then-place-eq0, else-place-eq0}

pub loop-place-preserved : goal.loop-place-preserved
loop-place-preserved c =
    let n = c.loop-place.place in
    let addr = get_or c.args.addrs.now n 0 in
    let is : c.if-place-eq0.finder ≡ c.args.catalog.now = elim c.if-place-eq0.branch [
      | then-place-eq0 w ↦ w.finder-is ∙ w.expect.ensures ∙ c.loop-place.invariant.0
      | else-place-eq0 w ↦ w.finder-is ∙ c.loop-place.invariant.0
    ] in
    let seen = c.seek_next.ensures.seen ∙ ap (λ k. known_at k addr) is in
    let told = c.told.ensures ∙ ap (told_of c.catalog.result.now) seen
    ∙ ap (λ k. told_of k (known_at c.args.catalog.now addr)) c.catalog.ensures in (
      c.seek_next.ensures.stays ∙ is,
      (λ i. slice_set (c.loop-place.invariant.1 i) n (told i))
          ∙ map_more (told_at c.args.catalog.now) c.args.addrs.now c.args.out.now n 0
          c.loop-place-test.true c.requires,
    )
