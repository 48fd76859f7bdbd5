use Rattle.modules.proofs.Words.{◌≡◌, ◌+◌, take, sym, ap, ◌∙◌, fold}
use Rattle.std.proofs.lemmas.List.Sums.{fold_more}
use Rattle.modules.proofs.Definitions.{Accepted, after_module, none_yet, admission_view}
use Rattle.modules.proofs.Definitions.{ListedModule, PlacedModule, placed_line}
use Rattle.modules.proofs.AdmissionLemmas.{total, total-after_module}
use Rattle.modules.proofs.admission.admit.Goals as goal

pub loop-line-preserved : goal.loop-line-preserved
loop-line-preserved c =
    let i = c.loop-line.invariant in
    let regions = c.args.regions.now in
    let lines = c.args.lines.now in
    let line = c.line-item.result in
    let step : Accepted → ListedModule → Accepted = λ a x. after_module a (placed_line regions x) in
    let after : admission_view c.take_module.new.self
    ≡ after_module (admission_view c.loop-line.admission) c.in_ok-place.field-0 =
    c.in_ok-take_module.ensures.after in
    record {
      shows =
          after ∙ ap (λ (m : PlacedModule). after_module (admission_view c.loop-line.admission) m)
          c.in_ok-place.ensures ∙ ap (λ (a : Accepted). step a line) i.shows
          ∙ ap (λ (x : ListedModule). step (fold step (none_yet c.args.built_in.items)
          (take c.loop-line.line-index lines)) x) c.line-item.is ∙ sym (fold_more step
          (none_yet c.args.built_in.items) lines c.loop-line.line-index line c.loop-line-test.true);
      tied = c.in_ok-take_module.ensures.tied;
      counted = ap total after
          ∙ total-after_module (admission_view c.loop-line.admission) c.in_ok-place.field-0
          ∙ ap (λ n. n + 1) i.counted;
    }
