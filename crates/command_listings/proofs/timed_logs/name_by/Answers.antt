use Rattle.command_listings.proofs.Words.{◌≡◌, ◌∙◌, ◌+◌, ap, arith, refl, sym}
use Rattle.command_listings.proofs.TimedLemmas.{left_named, left_stopped}
use Rattle.command_listings.specs.TimedLogs.{left_of}
use Rattle.logs.proofs.PutLemmas.{is_handed}
use Rattle.command_listings.proofs.timed_logs.name_by.Goals as goal

pub returns-in_err-pending-clause-turn : goal.returns-in_err-pending-clause-turn
returns-in_err-pending-clause-turn g c = λ kernel rule are first begun n to.
    rw (is_handed c.from_residual.result c.from_residual.ensures.1)
    (left_stopped _ _ _ _ _ _ _ c.args.listing.now.count
    (g.A.Answers.answering c.args.answers.now) are _ c.args.log.now c.name_run.new.lines _ _
    c.name_run.new.writer c.in_err-pending.field-0.0 to
    (rw (c.deref.ensures.value, c.in_err-pending.was) at c.name_run.ensures.run))

pub returns-in-Some-clause-turn : goal.returns-in-Some-clause-turn
returns-in-Some-clause-turn g c = λ kernel rule are first begun n to.
    let log = c.args.log.now in (
      n + 1,
      omega arith,
      left_named _ _ _ _ _ _ _ c.args.listing.now.count
          (g.A.Answers.answering c.args.answers.now) are _ log
          (record log { lines = c.name_run.new.lines; left = c.in-Some.pending.left }) _ _
          c.name_run.new.writer c.in_ok-pending.field-0 to
          (rw c.deref.ensures.value at c.in_ok-pending.ensures.run)
          (sym (ap left_of c.in-Some.is)) refl refl,
    )

pub returns-in-None-clause-turn : goal.returns-in-None-clause-turn
returns-in-None-clause-turn g c = λ kernel rule are first begun n to.
    let log = c.args.log.now in
    let less : n + 1 ≡ (n + 1) + 0 = omega arith in
    rw less (c.name_blocks.ensures.turn kernel rule (rw c.name_run.ensures.answers are) first begun
    (n + 1) (left_named _ _ _ _ _ _ _ c.args.listing.now.count
    (g.A.Answers.answering c.args.answers.now) are _ log
    (record log { lines = c.name_run.new.lines; left = c.new.result }) _ _ c.name_run.new.writer
    c.in_ok-pending.field-0 to
    (rw c.deref.ensures.value at c.in_ok-pending.ensures.run)
    (c.new.ensures.items ∙ sym (ap left_of c.in-None.is)) refl refl))
