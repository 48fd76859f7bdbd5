use Rattle.modules.proofs.RisingLemmas.{first_from_border}
use Rattle.modules.proofs.symbols.first_back.Goals as goal

pub returns-then-is_first : goal.returns-then-is_first
returns-then-is_first c =
    first_from_border c.args.symbols.now c.args.addr c.args.place c.requires
    (c.is_first.ensures c.if-is_first.true)

pub returns-then-is_first-2 : goal.returns-then-is_first-2
returns-then-is_first-2 c =
    first_from_border c.args.symbols.now c.args.addr c.saturating_sub-before.result c.requires
    (c.is_first-2.ensures c.if-is_first-2.true)
