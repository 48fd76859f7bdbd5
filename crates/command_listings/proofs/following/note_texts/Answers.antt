use Rattle.command_listings.proofs.Words.{texts_in, catalog_opened}
use Rattle.command_listings.proofs.following.note_texts.Goals as goal

pub returns : goal.returns
returns g c =
    let given = texts_in c.args.texts.now in
    let opened = c.in_ok-opened.opened in (
      opened.catalog,
      opened.notes,
      rw c.as_ref.ensures.value at (catalog_opened _ given opened c.in_ok-opened.ensures),
      c.note_listings.ensures,
    )
