use Rattle.latch_table.proofs.Words.{OnTheWay, steps_left_of}
use Rattle.latch_table.proofs.writers.Writer.finish.Given as goal

abbrev pub invariant-loop : goal.invariant-loop
invariant-loop g l = OnTheWay l.initial.self l.self

abbrev pub decreases-loop : goal.decreases-loop
decreases-loop g l = steps_left_of l.self.latch.pending
