use Rattle.command_listings.proofs.Words.{then}
use Rattle.command_listings.proofs.note_texts.put_note_head.Goals as goal

pub returns : goal.returns
returns g c = then (then c.put.ensures c.put-2.ensures) c.put-3.ensures
