use Rattle.command_traces.proofs.GatheredLemmas.{way_begun, way_ended, way_on}
use Rattle.command_traces.proofs.TraceLineLemmas.{none_taken, taken}
use Rattle.command_traces.proofs.trace.gather_lines.Goals as goal

pub loop-next-init : goal.loop-next-init
loop-next-init g c = way_begun g.O.TreeOrder.order g.W.Write.contents _ _ _

pub loop-next-preserved-in_ok-gather_command : goal.loop-next-preserved-in_ok-gather_command
loop-next-preserved-in_ok-gather_command g c =
    way_on g.O.TreeOrder.order g.W.Write.contents _ _ _ _ _ _ c.loop-next.invariant _ _ _ _
    (taken _ _ _ _ c.in-Some.is c.in_ok-next.ensures.next).said
    c.in_ok-gather_command.ensures.gathered

pub loop-next-preserved-in_ok-gather_command-2 : goal.loop-next-preserved-in_ok-gather_command-2
loop-next-preserved-in_ok-gather_command-2 g c =
    way_on g.O.TreeOrder.order g.W.Write.contents _ _ _ _ _ _ c.loop-next.invariant _ _ _ _
    (taken _ _ _ _ c.in-Some.is c.in_ok-next.ensures.next).said
    c.in_ok-gather_command.ensures.gathered

pub loop-next-preserved : goal.loop-next-preserved
loop-next-preserved g c =
    way_on g.O.TreeOrder.order g.W.Write.contents _ _ _ _ _ _ c.loop-next.invariant _ _ _ _
    (taken _ _ _ _ c.in-Some.is c.in_ok-next.ensures.next).said
    c.in_ok-gather_command.ensures.gathered

pub returns-clause-gathered : goal.returns-clause-gathered
returns-clause-gathered g c =
    way_ended g.O.TreeOrder.order g.W.Write.contents _ _ _ _ _ _ c.loop-next.invariant
    (none_taken c.loop-next.lines c.next_command.new.lines c.in_ok-next.field-0 c.in_default.is
    c.in_ok-next.ensures.next).0
