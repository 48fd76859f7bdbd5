use Rattle.command_listings.proofs.FollowingLemmas.{after_failed, after_nameless, after_put}
use Rattle.logs.proofs.PutLemmas.{is_handed}
use Rattle.command_listings.proofs.following.put_after_reading.Goals as goal

pub returns-in_err-outcome : goal.returns-in_err-outcome
returns-in_err-outcome g c =
    let a = c.args in
    let (event, once, puts) = c.in_err-outcome.ensures in
    rw (is_handed c.from_residual.result c.from_residual.ensures.1) (
      event,
      once,
      after_failed g.W.Write.contents g.E.Write.contents a.request.sources.now a.request.job.now
          a.part a.followed a.annotator.now c.put_again.new.annotator event a.outputs.now.writer
          c.put_again.new.writer a.outputs.now.errors c.in_err-outcome.field-0.0 puts,
    )

pub returns-in-Ok : goal.returns-in-Ok
returns-in-Ok g c =
    let a = c.args in
    let (event, once, puts) = c.in_ok-outcome.ensures in (
      event,
      once,
      after_put g.W.Write.contents g.E.Write.contents a.request.sources.now a.request.job.now a.part
          a.followed a.annotator.now c.put_again.new.annotator event a.outputs.now.writer
          c.put_again.new.writer a.outputs.now.errors c.in-Ok.put
          (rw c.in-Ok.is at puts),
    )

pub returns-in-Err : goal.returns-in-Err
returns-in-Err g c =
    let a = c.args in
    let (event, once, puts) = c.in_ok-outcome.ensures in
    let (note, tells, said) = c.note_once.ensures in (
      event,
      once,
      after_nameless g.W.Write.contents g.E.Write.contents a.request.sources.now a.request.job.now
          a.part a.followed a.annotator.now c.put_again.new.annotator c.put_nameless.new.annotator
          event a.outputs.now.writer c.put_again.new.writer c.put_nameless.new.writer
          a.outputs.now.errors c.note_once.new.errors c.in-Err.why note c.put_nameless.result
          (rw c.in-Err.is at puts) tells said c.put_nameless.ensures,
    )
