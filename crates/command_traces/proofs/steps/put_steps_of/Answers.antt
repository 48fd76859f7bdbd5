use Rattle.command_traces.proofs.Words.{err_from_is_err_and, inl, refl, IsBegunOf, IsCutText}
use Rattle.command_traces.proofs.Words.{IsStepsText, StopsAfter, with_header}
use Rattle.command_traces.proofs.StepLemmas.{steps_answered, steps_failed}
use Rattle.command_traces.proofs.TraceLineLemmas.{not_opened}
use Rattle.command_traces.proofs.steps.put_steps_of.Goals as goal

pub returns-in_err-world : goal.returns-in_err-world
returns-in_err-world g c =
    let p = err_from_is_err_and c.from_residual.result c.from_residual.ensures.1 in
    let lines = c.args.lines.now in
    rw (p.1, p.2)
    (not_opened (λ x. IsStepsText x lines.lines) (λ x. IsCutText x lines.lines) (StopsAfter
    (IsBegunOf lines.lines (with_header c.args.header lines.said)) g.W.Write.contents)
    g.W.Write.contents c.args.header lines.said c.args.writer.now (inl refl)
    c.in_err-world.field-0.0
    c.in_err-world.ensures.refusal c.requires.understood)

pub returns-in_err-all_written : goal.returns-in_err-all_written
returns-in_err-all_written g c =
    let p = err_from_is_err_and c.from_residual-in_err-all_written.result
    c.from_residual-in_err-all_written.ensures.1 in
    rw (p.1, p.2, c.in_err-all_written.ensures.fault)
    (steps_failed g.O.TreeOrder.order g.W.Write.contents c.args.header c.args.lines.now
    c.requires.understood c.requires.order c.in_ok-world.world c.in_ok-world.ensures.opened
    c.args.writer.now c.put_opening.new.writer c.put_opening.ensures
    c.put_step_lines-told.new.writer c.flush.new.self c.flush.ensures c.put_step_lines-told.result
    c.put_step_lines-told.ensures.told c.put_step_lines-told.ensures.fault
    c.in_err-all_written.ensures.failed)

pub returns : goal.returns
returns g c =
    steps_answered g.O.TreeOrder.order g.W.Write.contents c.args.header c.args.lines.now
    c.requires.understood c.requires.order c.in_ok-world.world c.in_ok-world.ensures.opened
    c.args.writer.now c.put_opening.new.writer c.put_opening.ensures
    c.put_step_lines-told.new.writer c.flush.new.self c.flush.ensures c.put_step_lines-told.result
    c.put_step_lines-told.ensures.told c.put_step_lines-told.ensures.fault
    c.in_ok-all_written.ensures.written
