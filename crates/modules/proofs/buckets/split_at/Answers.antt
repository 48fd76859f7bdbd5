use Rattle.modules.proofs.IndexLemmas.{split_from_border}
use Rattle.modules.proofs.buckets.split_at.Goals as goal

pub returns-then-is_border : goal.returns-then-is_border
returns-then-is_border g c =
    split_from_border g.T.Addressed.addr_of c.args.listed.now c.args.addr c.args.near c.requires
    (c.is_border.ensures c.if-is_border.true)
