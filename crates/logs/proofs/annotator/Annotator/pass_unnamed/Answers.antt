use Rattle.logs.proofs.Definitions.{Passes, refl}
use Rattle.logs.proofs.PutLemmas.{puts_less}
use Rattle.logs.specs.Unnamed.{unanswered}
use Rattle.logs.proofs.annotator.Annotator.pass_unnamed.Goals as goal

pub returns : goal.returns
returns g c =
    puts_less g.W.Write.contents (λ (u : Unit {0}).
    Passes (unanswered c.args.is_narrow) c.args.self.now c.pass-put.new.self c.args.bytes.now) _
    c.args.writer.now c.pass-put.new.writer
    (λ u text passes. (c.pass-put.new.self, passes, refl)) c.pass-put.result c.pass-put.ensures
