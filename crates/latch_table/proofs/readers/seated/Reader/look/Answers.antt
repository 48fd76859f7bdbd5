use Rattle.latch_table.proofs.Words.{rules, subst, ◌∙◌, reader_of, ReaderState, Looked}
use Rattle.latch_table.proofs.MemoryLemmas.{looked_more}
use Rattle.latch_table.proofs.readers.seated.Reader.look.Goals as goal

pub returns-clause-looked : goal.returns-clause-looked
returns-clause-looked g c = subst (λ (z : ReaderState). Looked g.O.TreeOrder.order c.args.k z.memory
    z.knowledge (reader_of c.look.new.seat.me.0) c.look.result) c.self.view_is c.look.ensures.looked

pub invariant_of-self : goal.invariant_of-self
invariant_of-self g c = (
  search rules,
  search rules,
  search rules,
  (looked_more g.O.TreeOrder.order c.args.k c.self.inside.memory (reader_of c.self.inside.seat.me.0)
      (reader_of c.look.new.seat.me.0) c.look.result c.look.ensures.looked).capacity
      ∙ c.self.invariant.3,
  c.look.ensures.still,
)
