use Rattle.command_traces.proofs.Words.{refl, err_from_is_err_and}
use Rattle.command_traces.proofs.StepLemmas.{lines_begun, lines_more, next_stops, obey_stops}
use Rattle.command_traces.proofs.TraceLineLemmas.{none_taken, taken}
use Rattle.command_traces.proofs.steps.put_step_lines.Goals as goal

pub loop-next-init : goal.loop-next-init
loop-next-init g c = lines_begun g.O.TreeOrder.order g.W.Write.contents c.args.lines.now
    c.args.world.now c.args.writer.now

pub loop-next-preserved-in_ok-all_written : goal.loop-next-preserved-in_ok-all_written
loop-next-preserved-in_ok-all_written g c =
    lines_more g.O.TreeOrder.order g.W.Write.contents _ _ _ _ _ _ _ _ _ c.in-Some.next _
    c.of.ensures c.loop-next.invariant (taken _ _ _ _ c.in-Some.is c.in_ok-next.ensures.next)
    c.in_ok-obey.ensures.obeyed

pub loop-next-preserved-in_ok-all_written-2 : goal.loop-next-preserved-in_ok-all_written-2
loop-next-preserved-in_ok-all_written-2 g c =
    lines_more g.O.TreeOrder.order g.W.Write.contents _ _ _ _ _ _ _ _ _ c.in-Some.next _
    c.of.ensures c.loop-next.invariant (taken _ _ _ _ c.in-Some.is c.in_ok-next.ensures.next)
    c.in_ok-obey.ensures.obeyed

pub loop-next-preserved : goal.loop-next-preserved
loop-next-preserved g c =
    lines_more g.O.TreeOrder.order g.W.Write.contents _ _ _ _ _ _ _ _ _ c.in-Some.next _
    c.of.ensures c.loop-next.invariant (taken _ _ _ _ c.in-Some.is c.in_ok-next.ensures.next)
    c.in_ok-obey.ensures.obeyed

pub returns-in_err-next-clause-fault : goal.returns-in_err-next-clause-fault
returns-in_err-next-clause-fault g c =
    let p = err_from_is_err_and c.from_residual.result c.from_residual.ensures.1 in
    rw (p.1, p.2)
    (next_stops g.O.TreeOrder.order g.W.Write.contents _ _ _ _ _ _ c.in_err-next.field-0.0
    c.loop-next.invariant
    (c.in_err-next.ensures.some refl) c.in_err-next.ensures.fault)

pub returns-in_err-obey-clause-fault : goal.returns-in_err-obey-clause-fault
returns-in_err-obey-clause-fault g c =
    let p = err_from_is_err_and c.from_residual-in_err-obey.result
    c.from_residual-in_err-obey.ensures.1 in
    rw (p.1, p.2, c.in_err-obey.ensures.refusal)
    (obey_stops g.O.TreeOrder.order g.W.Write.contents _ _ _ _ _ _ _ _ c.in-Some.next
    c.loop-next.invariant
    (taken _ _ _ _ c.in-Some.is c.in_ok-next.ensures.next) c.in_err-obey.ensures.refused)

pub returns-in_err-all_written-clause-fault : goal.returns-in_err-all_written-clause-fault
returns-in_err-all_written-clause-fault g c =
    let p = err_from_is_err_and c.from_residual-in_err-all_written.result
    c.from_residual-in_err-all_written.ensures.1 in
    rw (p.1, p.2, c.in_err-all_written.ensures.fault) (
      c.in_err-all_written.ensures.failed,
      (
        _,
        _,
        lines_more g.O.TreeOrder.order g.W.Write.contents _ _ _ _ _ _ _ _ _ c.in-Some.next _
            c.of.ensures c.loop-next.invariant
            (taken _ _ _ _ c.in-Some.is c.in_ok-next.ensures.next) c.in_ok-obey.ensures.obeyed,
      ),
    )

pub returns-clause-told : goal.returns-clause-told
returns-clause-told g c =
    let none = none_taken c.loop-next.lines c.next_command.new.lines c.in_ok-next.field-0
    c.in_default.is c.in_ok-next.ensures.next in
    (c.loop-next.lines, c.loop-next.world, none.0, none.1, c.loop-next.invariant)
