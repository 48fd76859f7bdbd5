use Rattle.command_listings.proofs.Words.{sym, ◌∙◌}
use Rattle.command_listings.proofs.FollowingLemmas.{stopped_is, stopped_so}
use Rattle.logs.specs.Annotation.{context_in}
use Rattle.logs.specs.Unnamed.{EndsUnnamed, PassesUnnamed}
use Rattle.logs.proofs.PutLemmas.{is_handed}
use Rattle.command_listings.proofs.following.put_unnamed.Goals as goal

pub returns-in_err-stopped-in-Lines : goal.returns-in_err-stopped-in-Lines
returns-in_err-stopped-in-Lines g c =
    let a = c.args.annotator.now in
    let b = c.pass_unnamed.new.self in
    let narrow = c.args.is_narrow in
    let s = c.in_err-stopped-in-Lines.field-0.0 in
    rw (c.in-Lines.is, is_handed c.from_residual.result c.from_residual.ensures.1)
    (stopped_so g.W.Write.contents c.args.writer.now c.pass_unnamed.new.writer
    (λ (u : Unit {0}). PassesUnnamed narrow a b c.in-Lines.block.now) _
    (λ u. (context_in a).names) (λ u text passes. passes)
    c.pass_unnamed.result s (sym c.stopped.ensures ∙ c.in_err-stopped-in-Lines.was)
    c.pass_unnamed.ensures)

pub returns-in-Last : goal.returns-in-Last
returns-in-Last g c =
    let a = c.args.annotator.now in
    let narrow = c.args.is_narrow in
    rw (c.in-Last.is, c.stopped-in-Last.ensures) (stopped_is g.W.Write.contents c.args.writer.now
    c.end_unnamed.new.writer (EndsUnnamed narrow a)
    c.end_unnamed.result c.end_unnamed.ensures)
