use Rattle.command_listings.proofs.Words.{refl}
use Rattle.command_listings.proofs.notes.note_listings.Goals as goal

pub returns-then-any : goal.returns-then-any
returns-then-any g c = rw (← c.any.ensures, c.if-any.true) c.put_notes_of.ensures

pub returns-else-any : goal.returns-else-any
returns-else-any g c = rw (← c.any.ensures, c.if-any.false) refl
