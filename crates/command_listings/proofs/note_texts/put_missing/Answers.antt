use Rattle.command_listings.proofs.Words.{same_text, then}
use Rattle.command_listings.proofs.note_texts.put_missing.Goals as goal

pub returns : goal.returns
returns g c = then (then c.put.ensures c.put-2.ensures) (same_text c.remedy.ensures c.put-3.ensures)
