use Rattle.command_listings.proofs.Words.{texts_in, catalog_opened}
use Rattle.logs.proofs.PutLemmas.{is_handed}
use Rattle.command_listings.proofs.following.index_of.Goals as goal

pub returns-in_err-opened : goal.returns-in_err-opened
returns-in_err-opened c =
    rw (is_handed c.from_residual.result c.from_residual.ensures.1)
    (rw (c.as_ref.ensures.value, c.in_err-opened.was) at c.open_catalog.ensures)

pub returns : goal.returns
returns c =
    let given = texts_in c.args.texts.now in
    let opened = c.in_ok-opened.opened in (
      opened.notes,
      rw c.in_ok-new.ensures
          (rw c.as_ref.ensures.value at (catalog_opened _ given opened c.in_ok-opened.ensures)),
    )
