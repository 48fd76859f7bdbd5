use Rattle.latchsym.proofs.Words.{inl, subst, IsConcluded}
use Rattle.latchsym.proofs.programs.open_and_run.Goals as goal

pub returns : goal.returns
returns g c =
    let done = c.run_job-outcome in
    inl (
      c.in-Ok.opened,
      done.new.job,
      c.in-Ok.ensures.opened,
      record {
        told = done.new.outputs.errors;
        outcome = done.result;
        is_done = done.ensures;
        is_told = subst
            (λ error. IsConcluded g.E.Write.contents c.args.job.now error done.new.outputs.errors
            c.conclude.new.writer done.result c.conclude.result)
            c.error_of_outcome-error.ensures c.conclude.ensures;
      },
    )
