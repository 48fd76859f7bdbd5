use Rattle.command_listings.proofs.Words.{◌∙◌, ap, Some, inl, refl, is_narrow, lines_of}
use Rattle.command_listings.proofs.Words.{listed_kernel, catalog_opened, texts_in}
use Rattle.command_listings.proofs.AnnotationLemmas.{log_annotated, not_opened, told_by}
use Rattle.logs.proofs.PutLemmas.{is_handed}
use Rattle.command_listings.proofs.annotations.annotate_by_texts.Goals as goal

pub returns-in_err-opened : goal.returns-in_err-opened
returns-in_err-opened g c =
    let a = c.args in
    let given = texts_in a.texts.now in
    let fault = c.in_err-opened.field-0.0 in
    rw (is_handed c.from_residual.result c.from_residual.ensures.1)
    (not_opened g.L.Read.remaining g.W.Write.contents g.E.Write.contents a.request.sources.now
    a.request.job.now given a.log.now a.outputs.now.writer a.outputs.now.errors fault
    (rw (c.as_ref.ensures.value, c.in_err-opened.was) at c.open_catalog.ensures))

pub returns-in_err-index : goal.returns-in_err-index
returns-in_err-index g c =
    rw (is_handed c.from_residual-in_err-index.result c.from_residual-in_err-index.ensures.1)
    (tt, inl (refl, refl, refl))

pub returns : goal.returns
returns g c =
    let a = c.args in
    let given = texts_in a.texts.now in
    let opened = c.in_ok-opened.opened in
    let index = c.new-answers.result.index in
    let narrow = c.new-answers.result.is_narrow in
    let file = a.request.job.now.log.now in
    let offset = a.request.job.now.rule.offset in
    let noted = c.note_listings.new.writer in
    let end = c.stopped-end.result in
    log_annotated g.L.Read.remaining g.W.Write.contents g.E.Write.contents a.request.sources.now
    a.request.job.now
    a.log.now c.annotate.new.reader a.outputs.now.writer c.annotate.new.writer a.outputs.now.errors
    c.conclude_log.new.errors
    (Some given) c.conclude_log.result (record {
      catalog = index;
      narrow = narrow;
      listed = listed_kernel given.kallsyms offset;
      notes = opened.notes;
      noted = noted;
      sized = c.new-answers.ensures.narrow ∙ c.is_narrow-is_narrow.ensures
          ∙ ap (λ t. is_narrow (lines_of t)) c.deref.ensures.value;
      lies = refl;
      said = rw (c.new-answers.ensures.index ∙ c.in_ok-index.ensures)
          (rw c.as_ref.ensures.value at (catalog_opened _ given opened c.in_ok-opened.ensures));
      told = c.note_listings.ensures;
      holds = (
        c.annotate.result,
        rw c.new-answers.ensures.rule at c.annotate.ensures,
        rw c.stopped-end.ensures at (told_by g.E.Write.contents file c.kernel_if_said-kernel.result
            (listed_kernel given.kallsyms offset) noted c.conclude_log.new.errors end
            c.conclude_log.result
            (rw c.deref-2.ensures.value at c.kernel_if_said-kernel.ensures)
            c.conclude_log.ensures),
      );
    })
