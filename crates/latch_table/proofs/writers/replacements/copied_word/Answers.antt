use Rattle.latch_table.proofs.Words.{◌<◌, ap, subst, TableId}
use Rattle.latch_table.proofs.RuleLemmas.{allows_copy}
use Rattle.latch_table.proofs.writers.replacements.copied_word.Goals as goal

pub load-requires : goal.load-requires
load-requires g c = (
  c.requires.table,
  subst (λ (t : TableId). c.args.word < t.words) c.requires.table c.requires.within,
  allows_copy g.O.TreeOrder.order _ _ _ _ _ _ _ (ap (λ m. m.0.writer) c.requires.writes),
)
