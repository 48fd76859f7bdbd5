use Rattle.command_listings.proofs.Words.{◌∙◌, ap, given_or, noted_bounds}
use Rattle.command_listings.proofs.note_texts.put_notes_of.Goals as goal

pub returns : goal.returns
returns g c =
    rw (given_or c.as_ref.result _ c.unwrap_or-names.result c.unwrap_or-names.ensures
    ∙ ap noted_bounds c.as_ref.ensures.value) at c.put_listing_notes.ensures
