use Rattle.logs.proofs.Definitions.{◌∙◌, ◌++◌, ap, refl}
use Rattle.logs.specs.AnnotatedLogs.{annotated_line}
use Rattle.logs.proofs.AnnotationLemmas.{whole_log}
use Rattle.logs.proofs.LineLemmas.{last_is_put}
use Rattle.logs.proofs.annotator.Annotator.annotated.Goals as goal

pub returns : goal.returns
returns g c =
    let answer = g.A.Answers.answering c.args.answers.now in
    let at_end = c.pass_bytes.new.self in
    let (written, is, passes) = c.in_ok-pass_bytes.ensures in
    let last = annotated_line answer at_end.context c.deref.result.now in
    whole_log answer c.new-annotator.result at_end c.args.log.now written last
    c.put_line.new.out.items c.put_line.new.context.names c.new-annotator.ensures.context
    c.new-annotator.ensures.open passes
    (last_is_put answer at_end c.put_line.new.context c.deref.result.now last c.deref.ensures.value
    c.in_ok-put_line.ensures.context refl)
    (c.in_ok-put_line.ensures.text
    ∙ ap (λ l. l ++ last) (is ∙ ap (λ l. l ++ written) c.in_ok-out.ensures.items))
