use Rattle.latch_table.proofs.Words.{sym, ◌∙◌, ap, subst, ReaderKnowledge, reader_of, Tried}
use Rattle.latch_table.proofs.Words.{MemoryHolds}
use Rattle.latch_table.proofs.MemoryLemmas.{remembers_tried, tried_more}
use Rattle.latch_table.proofs.readers.seated.Reader.try_find.Goals as goal

pub returns-clause-tried : goal.returns-clause-tried
returns-clause-tried g c = subst (λ (z : ReaderKnowledge). Tried g.O.TreeOrder.order c.args.k z
    (reader_of c.attempt-tried.new.seat.me.0) c.attempt-tried.result)
    (ap (λ r. r.knowledge) c.self.view_is) c.attempt-tried.ensures.tried

pub invariant_of-self : goal.invariant_of-self
invariant_of-self g c =
    let o = g.O.TreeOrder.order in
    let e = reader_of c.self.inside.seat.me.0 in
    let e' = reader_of c.attempt-tried.new.seat.me.0 in (
      c.attempt-tried.ensures.table ∙ c.self.invariant.0,
      ap (λ t. t.words) c.attempt-tried.ensures.table ∙ c.self.invariant.1,
      c.attempt-tried.ensures.reads,
      (tried_more o c.args.k e e' c.attempt-tried.result c.attempt-tried.ensures.tried).capacity
          ∙ c.self.invariant.3,
      subst (MemoryHolds o e') (sym c.remember.ensures)
          (remembers_tried o c.args.k e e' c.self.inside.memory c.attempt-tried.result
          c.attempt-tried.ensures.tried c.self.invariant.4),
    )
