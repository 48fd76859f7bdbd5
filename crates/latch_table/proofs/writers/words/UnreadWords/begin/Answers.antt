use Rattle.latch_table.proofs.Words.{ap, writer_of}
use Rattle.latch_table.proofs.RuleLemmas.{allows_begin_lookup}
use Rattle.latch_table.proofs.WalkLemmas.{own_begun_is}
use Rattle.latch_table.proofs.writers.words.UnreadWords.begin.Goals as goal

pub load-first-requires : goal.load-first-requires
load-first-requires g c = (
  c.requires.table,
  c.requires.some,
  allows_begin_lookup g.O.TreeOrder.order _ _ _ _ _ _ _ (ap (λ m. m.0.writer) c.requires.writes),
)

pub returns-clause-view : goal.returns-clause-view
returns-clause-view g c = own_begun_is c.args.seat.now.me c.load-first.new.seat.me
    (writer_of c.args.seat.now.me.0) _ c.requires.writes c.load-first.ensures.2.1
