use Rattle.command_listings.proofs.Words.{then}
use Rattle.command_listings.proofs.note_texts.put_note.Goals as goal

pub returns : goal.returns
returns g c = then (then c.put_note_head.ensures c.put_message.ensures) c.put.ensures
