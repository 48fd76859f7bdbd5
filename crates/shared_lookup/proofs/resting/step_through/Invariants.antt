use Rattle.shared_lookup.proofs.Words.{◌≡◌, OnTheWay, steps_left_of}
use Rattle.shared_lookup.proofs.resting.step_through.Given as goal

abbrev pub invariant-loop-did : goal.invariant-loop-did
invariant-loop-did g l = (l.pending.writer.ghost_name ≡ l.fn.pending.writer.ghost_name)
    × OnTheWay l.fn.pending.writer.now l.pending.writer.now

abbrev pub decreases-loop-did : goal.decreases-loop-did
decreases-loop-did g l = steps_left_of l.pending.writer.now.latch.pending
