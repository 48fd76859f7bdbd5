use Rattle.latch_table.proofs.Words.{ap}
use Rattle.latch_table.proofs.RuleLemmas.{allows_sequence}
use Rattle.latch_table.proofs.readers.words.ReadWordsLoads.sequence.Goals as goal

pub load-requires : goal.load-requires
load-requires g c = (
  c.requires.can.0,
  c.requires.within,
  allows_sequence g.O.TreeOrder.order _ _ g.met.O.TreeOrder.lawful _ _ _ _
      (ap (λ m. m.0.reader) c.requires.can.1),
)
