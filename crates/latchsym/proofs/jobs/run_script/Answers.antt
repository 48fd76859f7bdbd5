use Rattle.latchsym.proofs.Words.{◌∙◌, ap, unwrap_or, given_or}
use Rattle.latchsym.proofs.jobs.run_script.Goals as goal

pub returns : goal.returns
returns g c =
    let kernel = given_or c.as_ref.result _ c.unwrap_or-kernel.result c.unwrap_or-kernel.ensures
    ∙ ap (λ k. unwrap_or k c.usual-usual.result) c.as_ref.ensures.value
    ∙ ap (unwrap_or c.args.sources.now.kernel) c.usual-usual.ensures in
    rw c.in-Some.is (rw kernel at c.run_engine.ensures)
