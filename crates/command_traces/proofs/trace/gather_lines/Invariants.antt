use Rattle.command_traces.proofs.GatheredLemmas.{IsUnderWay}
use Rattle.command_traces.proofs.trace.gather_lines.Given as goal

-- the driver carried out the commands that were taken from the lines
abbrev pub invariant-loop-next : goal.invariant-loop-next
invariant-loop-next g l = IsUnderWay g.O.TreeOrder.order g.W.Write.contents l.fn.lines.said
    l.lines.said l.fn.driver l.driver l.fn.gathered l.gathered

abbrev pub decreases-loop-next : goal.decreases-loop-next
decreases-loop-next g l = l.lines.bytes
