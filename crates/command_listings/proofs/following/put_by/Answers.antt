use Rattle.logs.proofs.PutLemmas.{is_handed, puts_failed}
use Rattle.logs.specs.Annotation.{Passes, context_in}
use Rattle.command_listings.proofs.following.put_by.Goals as goal

pub returns-in_err-pass_block-in-Lines : goal.returns-in_err-pass_block-in-Lines
returns-in_err-pass_block-in-Lines g c =
    let a = c.args.annotator.now in
    rw (c.in-Lines.is, is_handed c.from_residual.result c.from_residual.ensures.1)
    (puts_failed g.W.Write.contents (λ (u : Unit {0}).
    Passes (g.A.Answers.answering c.args.answers.now) a c.pass_block.new.self c.in-Lines.block.now)
    _
    c.args.writer.now c.pass_block.new.writer (context_in a).names (λ u text passes. passes)
    c.in_err-pass_block-in-Lines.field-0.0
    c.in_err-pass_block-in-Lines.ensures.put)

pub returns-in-Last : goal.returns-in-Last
returns-in-Last g c = rw c.in-Last.is c.end.ensures
