use Rattle.command_traces.proofs.Words.{AreLinesTold}
use Rattle.command_traces.proofs.steps.put_step_lines.Given as goal

-- the commands that were taken from the lines were told
abbrev pub invariant-loop-next : goal.invariant-loop-next
invariant-loop-next g l = AreLinesTold g.O.TreeOrder.order g.W.Write.contents l.fn.lines l.lines
    l.fn.world l.world l.fn.writer l.writer

abbrev pub decreases-loop-next : goal.decreases-loop-next
decreases-loop-next g l = l.lines.bytes
