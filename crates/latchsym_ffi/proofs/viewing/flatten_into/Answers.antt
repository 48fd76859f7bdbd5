use Rattle.latchsym_ffi.proofs.Words.{◌∙◌, rules, AreRooms}
use Rattle.latchsym_ffi.proofs.ViewLemmas.{as_many_items}
use Rattle.latchsym_ffi.proofs.viewing.flatten_into.Goals as goal

pub flatten-requires-clause-regions : goal.flatten-requires-clause-regions
flatten-requires-clause-regions c =
    let are : AreRooms c.args.catalog.now c.args.regions.now c.args.symbols.now
    c.args.addresses.now = search rules in
    are.of_regions ∙ as_many_items c.args.catalog.now
