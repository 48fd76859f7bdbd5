use Rattle.latchsym_ffi.proofs.Words.{◌∙◌, ap, arith, sym, option_map, symbol_of_row}
use Rattle.latchsym_ffi.proofs.Words.{without_letter}
use Rattle.latchsym_ffi.proofs.ViewLemmas.{no_row_below, row_above, row_below}
use Rattle.latchsym_ffi.proofs.views.around.Goals as goal

pub returns-then-split-eq0-clause-below : goal.returns-then-split-eq0-clause-below
returns-then-split-eq0-clause-below c = λ symbols are.
    let region = c.args.region.now in
    sym (ap (option_map without_letter)
    (no_row_below symbols region.symbols.now region.addresses.now are c.args.addr
    c.addresses_below-split.result c.addresses_below-split.ensures c.if-split-eq0.true))

pub returns-then-split-eq0-clause-above : goal.returns-then-split-eq0-clause-above
returns-then-split-eq0-clause-above c = λ symbols are.
    let region = c.args.region.now in
    c.address_at-above.ensures
    ∙ row_above symbols region.symbols.now region.addresses.now are c.args.addr
    c.addresses_below-split.result c.addresses_below-split.ensures

pub returns-clause-below : goal.returns-clause-below
returns-clause-below c = λ symbols are.
    let region = c.args.region.now in
    ap (option_map symbol_of_row) c.row_at.ensures
    ∙ row_below symbols region.symbols.now region.addresses.now are c.args.addr
    c.addresses_below-split.result c.addresses_below-split.ensures
    (let some = c.if-split-eq0.false in omega arith)

pub returns-clause-above : goal.returns-clause-above
returns-clause-above c = λ symbols are.
    let region = c.args.region.now in
    c.address_at-above.ensures
    ∙ row_above symbols region.symbols.now region.addresses.now are c.args.addr
    c.addresses_below-split.result c.addresses_below-split.ensures
