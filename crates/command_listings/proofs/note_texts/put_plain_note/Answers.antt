use Rattle.command_listings.proofs.Words.{BoundNames, ap, message_of, same_text, then}
use Rattle.command_listings.proofs.note_texts.put_plain_note.Goals as goal

pub returns : goal.returns
returns g c =
    then (same_text (ap (λ (bounds : BoundNames). message_of bounds c.args.note) c.usual.ensures)
    c.put_message.ensures) c.put.ensures
