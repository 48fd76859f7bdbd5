use Rattle.latchsym.proofs.Words.{[], ◌∙◌, ap, sym, unwrap_or, option_map_or, same_text, given_or}
use Rattle.latchsym.proofs.Words.{usual_bounds, Bor, Option, List, ℕ, BoundNames, run_lines}
use Rattle.latchsym.proofs.job_notes.put_notes_of_run.Goals as goal

pub returns : goal.returns
returns g c =
    let q = c.args.sources.now in
    let lines : BoundNames → Bor (List ℕ) → List ℕ =
    λ names modules. run_lines names modules.now q.files.kallsyms.now c.args.notes.now in
    let names =
    given_or c.as_ref.result _ c.unwrap_or-names.result c.unwrap_or-names.ensures
    ∙ ap (λ (k : Option BoundNames). unwrap_or k c.usual-usual.result) c.as_ref.ensures.value
    ∙ ap (unwrap_or q.kernel) c.usual-usual.ensures in
    same_text (ap (λ n. lines n c.in-Some.modules) names
    ∙ sym (ap (λ m. option_map_or (lines (unwrap_or q.kernel usual_bounds)) m []) c.in-Some.is))
    c.put_run_notes.ensures
