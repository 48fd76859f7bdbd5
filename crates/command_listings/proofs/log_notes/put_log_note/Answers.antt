use Rattle.command_listings.proofs.Words.{ap, same_text, then, note_head}
use Rattle.command_listings.proofs.log_notes.put_log_note.Goals as goal

pub returns : goal.returns
returns g c = then (same_text (ap note_head c.log_name.ensures) c.put_note_head.ensures)
    c.put_log_message.ensures
