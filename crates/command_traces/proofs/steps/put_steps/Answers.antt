use Rattle.command_traces.proofs.Words.{subst, sym, command_lines, with_header, AnswersStepsSaid}
use Rattle.command_traces.proofs.steps.put_steps.Goals as goal

pub returns-then-header : goal.returns-then-header
returns-then-header g c =
    let r = c.put_steps_of.result in
    let w = c.args.writer.now in
    let w' = c.put_steps_of.new.writer in
    subst (λ said. AnswersStepsSaid g.W.Write.contents (command_lines c.args.bytes.now) said w w' r)
    (sym c.in-Some.ensures.trace)
    (subst (λ ls. AnswersStepsSaid g.W.Write.contents ls
    (with_header c.in-Some.header c.in-Some.lines.said) w w' r) c.in-Some.ensures.lines
    c.put_steps_of.ensures)

pub returns-else-header : goal.returns-else-header
returns-else-header g c =
    let r = c.put_steps_of-else-header.result in
    let w = c.args.writer.now in
    let w' = c.put_steps_of-else-header.new.writer in
    subst (λ said. AnswersStepsSaid g.W.Write.contents (command_lines c.args.bytes.now) said w w' r)
    (sym c.in-Some.ensures.trace)
    (subst (λ ls. AnswersStepsSaid g.W.Write.contents ls
    (with_header c.in-Some.header c.in-Some.lines.said) w w' r) c.in-Some.ensures.lines
    c.put_steps_of-else-header.ensures)
