use Rattle.latch_table.proofs.Words.{ap, reader_of}
use Rattle.latch_table.proofs.RuleLemmas.{allows_word}
use Rattle.latch_table.proofs.readers.words.ReadWordsLoads.load.Goals as goal

pub load-requires : goal.load-requires
load-requires g c =
    let may = c.requires.can.1 in (
      c.requires.can.0.0,
      c.requires.within,
      allows_word g.O.TreeOrder.order _ _ _ _ _ _ (reader_of c.args.seat.now.me.0) may.0 may.1
          (ap (λ m. m.0.reader) c.requires.can.0.1) may.2 may.3,
    )
