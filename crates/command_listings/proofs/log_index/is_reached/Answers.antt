use Rattle.command_listings.proofs.Words.{◌∙◌, sym}
use Rattle.command_listings.proofs.RangeLemmas.{none_reached}
use Rattle.command_listings.proofs.log_index.is_reached.Goals as goal

pub returns-then-is_empty : goal.returns-then-is_empty
returns-then-is_empty c =
    none_reached c.args.index.now c.args.addr c.items-items.result.now c.items-items.ensures
    (sym c.is_empty.ensures ∙ c.if-is_empty.true)
