use Rattle.latch_table.proofs.Words.{rules, ap}
use Rattle.latch_table.proofs.RuleLemmas.{allows_take}
use Rattle.latch_table.proofs.writers.steps.take_update.Goals as goal

pub load-requires : goal.load-requires
load-requires g c = (
  c.requires.table,
  search rules,
  allows_take g.O.TreeOrder.order _ _ _ _ _ _ _ g.J.NamesUpdate.update
      (ap (λ m. m.0.writer) c.requires.writes),
)
