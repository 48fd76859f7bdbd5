use Rattle.latch_table.proofs.Words.{ap}
use Rattle.latch_table.proofs.RuleLemmas.{allows_writer_load}
use Rattle.latch_table.proofs.writers.words.WriterWordsLoads.sequence.Goals as goal

pub load-requires : goal.load-requires
load-requires g c = (
  c.requires.can.0,
  c.requires.within,
  allows_writer_load g.O.TreeOrder.order _ _ _ _ _ _ _ (ap (λ m. m.0.writer) c.requires.can.1),
)
