use Rattle.logs.proofs.Definitions.{[], IsAnnotationOf}
use Rattle.logs.proofs.PutLemmas.{is_handed, fault_puts}
use Rattle.logs.specs.declared.annotation.Findings.{Findings}
use Rattle.logs.proofs.annotation.annotate_text.Goals as goal

pub returns-in_err-put_now : goal.returns-in_err-put_now
returns-in_err-put_now g c =
    let answer = g.A.Answers.answering c.args.answers.now in
    let fault = c.in_err-put_now.field-0.0 in
    let found : Findings = record { names = c.in_ok-out.names; head = c.keep_head.new.head } in
    rw (is_handed c.from_residual-in_err-put_now.result c.from_residual-in_err-put_now.ensures.1)
    (fault_puts g.W.Write.contents (IsAnnotationOf answer c.args.log.now)
    c.args.writer.now c.put_now.new.writer found c.deref.result.now fault (
      rw c.deref.ensures.value (rw c.prepare.ensures at c.in_ok-out.ensures),
      c.in_ok-keep_head.ensures [] c.new-head.ensures.items,
    )
    c.in_err-put_now.ensures.fault c.in_err-put_now.ensures.begun)

pub returns : goal.returns
returns g c = (
  c.deref.result.now,
  c.in_ok-put_now.ensures.written,
  (
    rw c.deref.ensures.value (rw c.prepare.ensures at c.in_ok-out.ensures),
    c.in_ok-keep_head.ensures [] c.new-head.ensures.items,
  ),
)
