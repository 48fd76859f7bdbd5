use Rattle.latch_table.proofs.Words.{◌≡◌}
use Rattle.latch_table.proofs.writers.steps.load_ahead.Given as goal

abbrev pub invariant-loop-place : goal.invariant-loop-place
invariant-loop-place g l = (l.seat.table_id ≡ l.fn.seat.table_id) × (l.seat.me ≡ l.fn.seat.me)
