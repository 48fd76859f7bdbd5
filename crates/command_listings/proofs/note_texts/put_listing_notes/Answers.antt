use Rattle.command_listings.proofs.Words.{then}
use Rattle.command_listings.proofs.note_texts.put_listing_notes.Goals as goal

pub returns-in-Some : goal.returns-in-Some
returns-in-Some g c = rw c.in-Some.is
    (then (rw c.as_bytes.ensures.value at c.put_if_noted.ensures)
    (rw c.as_bytes-kallsyms.ensures.value at c.put_if_noted-in-Some.ensures))

pub returns-in-None : goal.returns-in-None
returns-in-None g c = rw c.in-None.is
    (rw c.as_bytes-kallsyms.ensures.value at c.put_if_noted-in-None.ensures)
