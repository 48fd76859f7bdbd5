use Rattle.latchsym_ffi.proofs.Words.{◌≡◌, ◌+◌, ◌≤◌, ◌∙◌, List, arith, length, subst, take}
use Rattle.latchsym_ffi.proofs.Words.{take_all, items_below, AreRowsBelow, ViewRegion}
use Rattle.latchsym_ffi.proofs.FlatteningLemmas.{items_most, more_symbols, symbols_most}
use Rattle.latchsym_ffi.proofs.flattening.put_all.Goals as goal

pub put_module-rooms-requires-clause-regions : goal.put_module-rooms-requires-clause-regions
put_module-rooms-requires-clause-regions c =
    let most = items_most c.args.catalog.now c.loop-number.number (omega
    (arith, c.loop-number-test.true, c.len-number-end.ensures, c.loop-number.auto.number-end)) in
    let before = c.loop-number.invariant in
    omega (arith, most, before.0, before.1, c.requires.regions)

pub put_module-rooms-requires-clause-symbols : goal.put_module-rooms-requires-clause-symbols
put_module-rooms-requires-clause-symbols c =
    let most = symbols_most c.args.catalog.now c.loop-number.number (omega
    (arith, c.loop-number-test.true, c.len-number-end.ensures, c.loop-number.auto.number-end)) in
    let before = c.loop-number.invariant in
    omega (arith, most, before.2)

pub put_module-rooms-requires-clause-addresses : goal.put_module-rooms-requires-clause-addresses
put_module-rooms-requires-clause-addresses c =
    let most = symbols_most c.args.catalog.now c.loop-number.number (omega
    (arith, c.loop-number-test.true, c.len-number-end.ensures, c.loop-number.auto.number-end)) in
    let before = c.loop-number.invariant in
    omega (arith, most, before.3)

pub loop-number-preserved : goal.loop-number-preserved
loop-number-preserved c =
    let before = c.loop-number.invariant in
    let next = more_symbols c.args.catalog.now c.loop-number.number in (
      c.put_module-rooms.ensures.count ∙ before.0,
      c.put_module-rooms.ensures.place,
      omega (arith, c.put_module-rooms.ensures.symbols, before.2, next),
      omega (arith, c.put_module-rooms.ensures.addresses, before.3, next),
      c.put_module-rooms.ensures.put before.4,
    )

pub returns-2 : goal.returns-2
returns-2 c =
    let before = c.loop-number.invariant in
    let entries = c.args.catalog.now in
    let regions = c.put_module-rooms.new.regions in
    let last : c.loop-number.number + 1 ≡ length entries.modules + 1 = omega
    (arith, c.loop-number-test.true, c.len-number-end.ensures, c.loop-number.auto.number-end) in
    let written = subst (λ n. AreRowsBelow entries n (take c.put_module-rooms.result.place regions))
    last (c.put_module-rooms.ensures.put before.4) in
    let count = subst (λ n. c.put_module-rooms.result.place ≡ length (items_below entries n)) last
    c.put_module-rooms.ensures.place in
    let all : length regions ≤ c.put_module-rooms.result.place =
    omega (arith, c.put_module-rooms.ensures.count, before.0, c.requires.regions, count) in
    subst (λ (l : List ViewRegion). AreRowsBelow entries (length entries.modules + 1) l)
    (take_all c.put_module-rooms.result.place regions all) written
