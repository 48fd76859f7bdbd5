use Rattle.latchsym_ffi.proofs.Words.{arith}
use Rattle.latchsym_ffi.proofs.ViewLemmas.{no_region_below, region_found, region_passed}
use Rattle.latchsym_ffi.proofs.views.region_at.Goals as goal

pub returns-then-split-eq0-clause-is : goal.returns-then-split-eq0-clause-is
returns-then-split-eq0-clause-is c = λ entries is.
    no_region_below entries c.args.view.now.regions.now is c.args.addr c.regions_below-split.result
    c.regions_below-split.ensures c.if-split-eq0.true

pub returns-then-addr-region-clause-is : goal.returns-then-addr-region-clause-is
returns-then-addr-region-clause-is c = λ entries is.
    region_found entries c.args.view.now.regions.now is c.args.addr c.regions_below-split.result
    c.regions_below-split.ensures
    c.index-view-split.result (let some = c.if-split-eq0.false in omega arith) c.if-addr-region.true

pub returns-else-addr-region-clause-is : goal.returns-else-addr-region-clause-is
returns-else-addr-region-clause-is c = λ entries is.
    region_passed entries c.args.view.now.regions.now is c.args.addr c.regions_below-split.result
    c.regions_below-split.ensures
    c.index-view-split.result (let some = c.if-split-eq0.false in
    omega arith) c.if-addr-region.false
