use Rattle.latchsym.proofs.Words.{ap, ◌∙◌, with_notes}
use Rattle.latchsym.proofs.jobs.run_check.Goals as goal

pub returns : goal.returns
returns g c =
    let done = c.check-status in (
      done.result,
      done.ensures,
      c.with_notes.ensures ∙ ap (λ notes. with_notes notes done.result) c.none.ensures,
    )
