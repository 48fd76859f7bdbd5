use Rattle.logs.proofs.Definitions.{◌∙◌, ◌++◌, ℕ, List, ap, EndsLog}
use Rattle.logs.specs.AnnotatedLogs.{annotated_line}
use Rattle.logs.proofs.LineLemmas.{last_is_put}
use Rattle.logs.proofs.PutLemmas.{is_handed, fault_puts}
use Rattle.logs.proofs.annotator.Annotator.end.Goals as goal

pub returns-in_err-put_now : goal.returns-in_err-put_now
returns-in_err-put_now g c =
    let answer = g.A.Answers.answering c.args.answers.now in
    let fault = c.in_err-put_now.field-0.0 in
    rw (is_handed c.from_residual-in_err-put_now.result c.from_residual-in_err-put_now.ensures.1)
    (fault_puts g.W.Write.contents (EndsLog answer c.args.self.now) c.args.writer.now
    c.put_now.new.writer c.put_line.new.context.names c.deref-2.result.now fault
    (last_is_put answer c.args.self.now c.put_line.new.context c.deref.result.now
    c.deref-2.result.now c.deref.ensures.value c.in_ok-put_line.ensures.context
    (c.deref-2.ensures.value ∙ c.in_ok-put_line.ensures.text
    ∙ ap (λ (l : List ℕ). l ++ annotated_line answer c.args.self.now.context c.deref.result.now)
    c.new-out.ensures.items)) c.in_err-put_now.ensures.fault c.in_err-put_now.ensures.begun)

pub returns : goal.returns
returns g c =
    let answer = g.A.Answers.answering c.args.answers.now in (
      c.deref-2.result.now,
      c.in_ok-put_now.ensures.written,
      last_is_put answer c.args.self.now c.put_line.new.context c.deref.result.now
          c.deref-2.result.now c.deref.ensures.value c.in_ok-put_line.ensures.context
          (c.deref-2.ensures.value ∙ c.in_ok-put_line.ensures.text
          ∙ ap (λ (l : List ℕ). l ++ annotated_line answer c.args.self.now.context
          c.deref.result.now) c.new-out.ensures.items),
    )
