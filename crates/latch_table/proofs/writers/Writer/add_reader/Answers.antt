use Rattle.latch_table.proofs.Words.{rules, ap}
use Rattle.latch_table.proofs.RuleLemmas.{splits_another}
use Rattle.latch_table.proofs.writers.Writer.add_reader.Goals as goal

pub split_seat-seat-requires : goal.split_seat-seat-requires
split_seat-seat-requires g c = (
  search rules,
  search rules,
  splits_another g.O.TreeOrder.order _ _ _ _ _ (ap (λ m. m.0.writer) c.self.invariant.2.alone),
)
