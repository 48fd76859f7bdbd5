use Rattle.latch_table.proofs.Words.{rules, subst, reader_of, ReaderState, Recalled}
use Rattle.latch_table.proofs.MemoryLemmas.{recalls_now, remembers_now}
use Rattle.latch_table.proofs.readers.seated.Reader.recall.Goals as goal

pub returns-clause-recalled : goal.returns-clause-recalled
returns-clause-recalled g c =
    subst (λ (z : ReaderState). Recalled g.O.TreeOrder.order c.args.k z.memory z.knowledge
    (reader_of c.sequence-first.new.seat.me.0) c.recalled.result) c.self.view_is
    (recalls_now g.O.TreeOrder.order c.self.inside.seat.me c.sequence-first.new.seat.me
    c.sequence-first.result c.sequence-first.ensures.1 g.met.O.TreeOrder.lawful c.args.k
    c.self.inside.memory c.self.invariant.4 c.recalled.result c.recalled.ensures)

pub invariant_of-self : goal.invariant_of-self
invariant_of-self g c = (
  search rules,
  search rules,
  search rules,
  search rules,
  remembers_now g.O.TreeOrder.order c.self.inside.seat.me c.sequence-first.new.seat.me
      c.sequence-first.result c.sequence-first.ensures.1 c.self.inside.memory c.self.invariant.4,
)
