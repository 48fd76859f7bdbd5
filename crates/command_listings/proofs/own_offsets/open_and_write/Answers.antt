use Rattle.command_listings.proofs.Words.{◌∙◌, ap, inl, inr, refl, is_narrow, lines_of}
use Rattle.command_listings.proofs.Words.{listed_kernel, catalog_opened, texts_in, Refused}
use Rattle.command_listings.proofs.AnnotationLemmas.{told_by}
use Rattle.order_laws.specs.declared.refusals.Refusal.TheVariants as refusal
use Rattle.logs.proofs.PutLemmas.{is_handed}
use Rattle.command_listings.proofs.own_offsets.open_and_write.Goals as goal

pub returns-in_err-opened : goal.returns-in_err-opened
returns-in_err-opened g c =
    let fault = c.in_err-opened.field-0.0 in
    rw (is_handed c.from_residual.result c.from_residual.ensures.1) (inl (
      fault,
      rw (c.as_ref.ensures.value, c.in_err-opened.was) at c.open_catalog.ensures,
      (refl, (refl, refl)),
    ))

pub returns-in_err-index : goal.returns-in_err-index
returns-in_err-index g c =
    rw (is_handed c.from_residual-in_err-index.result c.from_residual-in_err-index.ensures.1)
    (inl (Refused refusal.OutOfMemory, tt, (refl, (refl, refl))))

pub returns : goal.returns
returns g c =
    let a = c.args in
    let given = texts_in a.texts.now in
    let opened = c.in_ok-opened.opened in
    let index = c.mark_names.new.self in
    let narrow = c.new-answers.result.is_narrow in
    inr (record {
      catalog = index;
      narrow = narrow;
      listed = listed_kernel given.kallsyms a.rule.offset;
      notes = opened.notes;
      noted = c.note_listings.new.writer;
      sized = c.new-answers.ensures.narrow ∙ c.is_narrow.ensures
          ∙ ap (λ t. is_narrow (lines_of t)) c.deref.ensures.value;
      lies = refl;
      said = rw (c.mark_names.ensures ∙ c.new-answers.ensures.index ∙ c.in_ok-index.ensures)
          (rw c.as_ref.ensures.value at (catalog_opened _ given opened c.in_ok-opened.ensures));
      told = c.note_listings.ensures;
      holds = (
        c.annotate_text.result,
        rw c.new-answers.ensures.rule at c.annotate_text.ensures,
        rw c.stopped-end.ensures at
            (told_by g.E.Write.contents a.request.job.now.log.now c.kernel_if_said-kernel.result
            (listed_kernel given.kallsyms a.rule.offset) c.note_listings.new.writer
            c.conclude_log.new.errors c.stopped-end.result c.conclude_log.result
            (rw c.deref-2.ensures.value at c.kernel_if_said-kernel.ensures)
            c.conclude_log.ensures),
      );
    })
