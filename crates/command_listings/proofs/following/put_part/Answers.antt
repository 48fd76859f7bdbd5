use Rattle.command_listings.proofs.Words.{None, inl, refl, sym, ◌∙◌}
use Rattle.command_listings.proofs.FollowingLemmas.{takes_asked, takes_quiet, takes_unput}
use Rattle.command_listings.proofs.ReadLemmas.{reads_nothing}
use Rattle.logs.proofs.PutLemmas.{is_handed}
use Rattle.command_listings.proofs.following.put_part.Goals as goal

pub returns-in_err-asks : goal.returns-in_err-asks
returns-in_err-asks g c =
    rw (is_handed c.from_residual.result c.from_residual.ensures.1) (
      None,
      reads_nothing (g.L.LastingLog.seen c.args.log.now),
      inl (refl, refl, c.in_err-asks.ensures.memory),
    )

pub returns-then-asks : goal.returns-then-asks
returns-then-asks g c =
    let a = c.args in
    let (event, once, names) = c.put_after_reading.ensures in
    takes_asked g.W.Write.contents g.E.Write.contents a.request.sources.now a.request.job.now a.part
    a.followed a.annotator.now c.put_after_reading.new.annotator (g.L.LastingLog.seen a.log.now)
    (g.L.LastingLog.seen c.put_after_reading.new.log) event
    a.outputs.now.writer c.put_after_reading.new.outputs.writer a.outputs.now.errors
    c.put_after_reading.new.outputs.errors c.put_after_reading.result
    (λ line is_open. sym c.if-asks.true ∙ c.in_ok-asks.ensures.asks line is_open) once names

pub returns-in_err-names : goal.returns-in_err-names
returns-in_err-names g c =
    let a = c.args in
    rw (is_handed c.from_residual-in_err-names.result c.from_residual-in_err-names.ensures.1)
    (takes_unput g.W.Write.contents g.E.Write.contents a.request.sources.now
    a.request.job.now a.part a.followed a.annotator.now c.put_unnamed.new.annotator
    (g.L.LastingLog.seen a.log.now) a.outputs.now.writer c.put_unnamed.new.writer
    a.outputs.now.errors
    c.in_err-names.field-0.0 (λ line is_open. sym c.if-asks.false
    ∙ c.in_ok-asks.ensures.asks line is_open) c.in_err-names.ensures)

pub returns : goal.returns
returns g c =
    let a = c.args in
    takes_quiet g.W.Write.contents g.E.Write.contents a.request.sources.now a.request.job.now a.part
    a.followed a.annotator.now c.put_unnamed.new.annotator (g.L.LastingLog.seen a.log.now)
    a.outputs.now.writer c.put_unnamed.new.writer a.outputs.now.errors
    c.in_ok-names.names (λ line is_open. sym c.if-asks.false
    ∙ c.in_ok-asks.ensures.asks line is_open) c.in_ok-names.ensures
