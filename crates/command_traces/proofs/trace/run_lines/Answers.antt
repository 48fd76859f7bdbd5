use Rattle.command_traces.proofs.Words.{◌≡◌, ◌++◌, ◌∙◌, ap, refl, same_text, then, then_flushed}
use Rattle.command_traces.proofs.Words.{Delivered, Delivers, WrotePart, with_header, end_text}
use Rattle.command_traces.proofs.Words.{AnswersSaid, IsTraceRun, Stays}
use Rattle.command_traces.proofs.GatheredLemmas.{answered}
use Rattle.command_traces.proofs.TraceLineLemmas.{not_opened}
use Rattle.command_parts.proofs.WrittenLemmas.{said_written}
use Rattle.command_traces.proofs.trace.run_lines.Goals as goal

pub returns-in-Err : goal.returns-in-Err
returns-in-Err g c =
    not_opened IsTraceRun IsTraceRun Stays g.W.Write.contents c.args.header c.args.lines.now.said
    c.args.writer.now refl c.in-Err.why
    c.in-Err.ensures.refusal c.in_ok-understand-in-Err.ensures.understood

pub returns : goal.returns
returns g c =
    let contents = g.W.Write.contents in
    let w = c.args.writer.now in
    let w' = c.flush.new.self in
    let gathers = c.in_ok-gather_lines.ensures.gathered in
    let gathered : c.in-Some.text.items ≡ gathers.2 =
    c.in-Some.ensures c.new.result c.in_ok-gathered.gathered gathers.2 c.in_ok-gathered.ensures
    gathers.3 ∙ ap (λ l. l ++ gathers.2) c.new.ensures.items in
    let whole = gathers.2 ++ end_text c.in_ok-left.left.sequence in
    let delivers : Delivers contents w w' whole = then_flushed
    (then (same_text (c.deref.ensures.value ∙ gathered) c.put.ensures) c.put_end.ensures)
    c.flush.ensures in
    let answer = answered c.args.header c.args.lines.now.said g.O.TreeOrder.order _ c.requires
    c.in-Ok.driver c.gather_lines.new.driver _ _ c.in-Ok.ensures.opened gathers c.in_ok-left.left
    c.in_ok-left.ensures.notes c.in_ok-left.ensures.left in
    said_written contents w w' whole delivers
    (AnswersSaid contents (with_header c.args.header c.args.lines.now.said) w w')
    (λ u all. answer (Delivered contents w w') all) (λ part. answer (WrotePart contents w w') part)
    c.all_written.result c.all_written.ensures.written c.all_written.ensures.failed
    c.all_written.ensures.fault
