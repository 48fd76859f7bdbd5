use Rattle.command_listings.proofs.Words.{ap, same_text, sym}
use Rattle.command_listings.specs.LogNotes.{log_message}
use Rattle.command_listings.proofs.log_notes.put_log_message.Goals as goal

pub returns-in-OtherNames : goal.returns-in-OtherNames
returns-in-OtherNames g c =
    same_text (ap log_message (sym c.in-OtherNames.is)) c.put_other_names.ensures
