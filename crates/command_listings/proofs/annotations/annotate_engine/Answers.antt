use Rattle.command_listings.proofs.Words.{texts_in, known_given, listing_failures}
use Rattle.command_listings.proofs.AnnotationLemmas.{not_read, readers_known}
use Rattle.logs.proofs.PutLemmas.{is_handed}
use Rattle.command_listings.proofs.annotations.annotate_engine.Goals as goal

pub returns-in_err-texts : goal.returns-in_err-texts
returns-in_err-texts g c =
    let a = c.args in
    let known =
    known_given g.M.Read.remaining g.K.Read.remaining g.R.Read.remaining a.listings.now in
    let counts = listing_failures a.listings.now c.read_given.new.readers in
    let fault = c.in_err-texts.field-0.0 in
    rw (is_handed c.from_residual.result c.from_residual.ensures.1)
    (not_read g.L.Read.remaining g.W.Write.contents g.E.Write.contents a.request.sources.now
    a.request.job.now known counts a.log.now a.outputs.now.writer a.outputs.now.errors fault
    c.in_err-texts.ensures.read)

pub returns : goal.returns
returns g c =
    let a = c.args in
    let known =
    known_given g.M.Read.remaining g.K.Read.remaining g.R.Read.remaining a.listings.now in
    let counts = listing_failures a.listings.now c.read_given.new.readers in
    readers_known g.L.Read.remaining g.W.Write.contents g.E.Write.contents a.request.sources.now
    a.request.job.now a.log.now c.annotate_by_texts.new.log a.outputs.now.writer
    c.annotate_by_texts.new.outputs.writer a.outputs.now.errors
    c.annotate_by_texts.new.outputs.errors
    (texts_in c.in_ok-texts.texts) known c.in_ok-texts.ensures.bytes counts
    c.in_ok-texts.ensures.read c.annotate_by_texts.result c.annotate_by_texts.ensures
