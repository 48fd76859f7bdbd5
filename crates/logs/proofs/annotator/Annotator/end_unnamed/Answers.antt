use Rattle.logs.proofs.Definitions.{EndsLog, refl}
use Rattle.logs.proofs.PutLemmas.{is_handed, puts_failed}
use Rattle.logs.specs.Unnamed.{EndsUnnamed, unanswered}
use Rattle.logs.proofs.annotator.Annotator.end_unnamed.Goals as goal

pub returns-in_err-end : goal.returns-in_err-end
returns-in_err-end g c =
    let a = c.args.self.now in
    rw (is_handed c.from_residual.result c.from_residual.ensures.1)
    (puts_failed g.W.Write.contents (EndsLog (unanswered c.args.is_narrow) a)
    (EndsUnnamed c.args.is_narrow a) c.args.writer.now c.end.new.writer a.context.names
    (λ some text ends. (refl, some, ends)) c.in_err-end.field-0.0 c.in_err-end.ensures)
