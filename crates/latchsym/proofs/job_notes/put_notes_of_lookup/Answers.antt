use Rattle.latchsym.proofs.Words.{◌∙◌, ap, sym, unwrap_or, same_text, given_or, BoundNames, Option}
use Rattle.latchsym.proofs.Words.{List, ℕ, lines_by, bounds_of_lookup}
use Rattle.latchsym.proofs.job_notes.put_notes_of_lookup.Goals as goal

pub returns-in-Some : goal.returns-in-Some
returns-in-Some g c =
    let q = c.args.sources.now in
    let named : BoundNames → List ℕ =
    λ names. lines_by names q.files.modules q.files.kallsyms.now c.args.notes.now in
    same_text (
    ap named (given_or c.as_ref.result _ c.unwrap_or-names.result c.unwrap_or-names.ensures
    ∙ ap (λ (k : Option BoundNames). unwrap_or k c.usual-usual.result) c.as_ref.ensures.value
    ∙ ap (unwrap_or q.kernel) c.usual-usual.ensures
    ∙ sym (ap (bounds_of_lookup q.kernel) c.in-Some.is))
    ) c.put_listing_notes.ensures

pub returns-in-None : goal.returns-in-None
returns-in-None g c =
    let q = c.args.sources.now in
    let named : BoundNames → List ℕ =
    λ names. lines_by names q.files.modules q.files.kallsyms.now c.args.notes.now in
    same_text (ap named (sym (ap (bounds_of_lookup q.kernel) c.in-None.is))) c.put_notes_of.ensures
