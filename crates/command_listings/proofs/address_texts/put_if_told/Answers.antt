use Rattle.command_listings.proofs.Words.{◌∙◌, sym}
use Rattle.command_listings.proofs.address_texts.put_if_told.Goals as goal

pub put_told-requires : goal.put_told-requires
put_told-requires g c = sym c.is_told.ensures ∙ c.if-is_told.true
