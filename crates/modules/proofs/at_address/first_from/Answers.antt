use Rattle.modules.proofs.RisingLemmas.{first_from_border}
use Rattle.modules.proofs.at_address.first_from.Goals as goal

pub returns-then-is_first : goal.returns-then-is_first
returns-then-is_first c =
    first_from_border c.args.symbols.now c.args.addr c.args.end c.requires
    (c.is_first.ensures c.if-is_first.true)
