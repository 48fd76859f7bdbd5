use Rattle.modules.proofs.AtAddressLemmas.{first_not_past}
use Rattle.modules.proofs.at_address.all_at.Goals as goal

pub slice_bounds-result-count : goal.slice_bounds-result-count
slice_bounds-result-count c =
    first_not_past c.args.symbols.now c.args.addr c.first_from-first.result c.split_at-end.result
    c.first_from-first.ensures c.split_at-end.ensures

pub slice_bounds-result-start : goal.slice_bounds-result-start
slice_bounds-result-start c =
    first_not_past c.args.symbols.now c.args.addr c.first_from-first.result c.split_at-end.result
    c.first_from-first.ensures c.split_at-end.ensures
