use Rattle.latchsym_ffi.proofs.Words.{◌≡◌, ◌∙◌, ap, map, into_iter_items, map-append, All-map}
use Rattle.latchsym_ffi.proofs.Words.{All-map_same, Reader}
use Rattle.latchsym_ffi.proofs.opening_tables.boxed.Goals as goal

pub returns-clause-each : goal.returns-clause-each
returns-clause-each c r all =
    let items = c.args.readers.items in
    let yielded = c.loop-inner.yielded in
    let rest = into_iter_items c.loop-inner.inner-iterator in
    All-map_same (λ b. b.value) c.loop-inner.boxes.items (map Reader yielded) (map Reader rest)
    (map Reader items) (Reader r)
    c.loop-inner.invariant.made
    (ap (map Reader) c.loop-inner.invariant.gone ∙ map-append Reader yielded rest)
    (All-map (λ x. x ≡ Reader r) Reader items (λ k d lt. ap Reader (all k d lt)))
