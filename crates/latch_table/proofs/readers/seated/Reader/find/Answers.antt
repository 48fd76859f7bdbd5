use Rattle.latch_table.proofs.Words.{refl, ◌∙◌, ap, Answered, memory_after}
use Rattle.latch_table.proofs.WalkLemmas.{searches_none, searches_more, searched}
use Rattle.latch_table.proofs.readers.seated.Reader.find.Goals as goal

pub loop-init : goal.loop-init
loop-init g c = (refl, searches_none c.args.self.now.knowledge, refl)

pub returns-in-Answered-clause-found : goal.returns-in-Answered-clause-found
returns-in-Answered-clause-found g c =
    searched g.O.TreeOrder.order c.args.k c.args.self.now.knowledge c.loop.self.knowledge
    c.try_find.new.self.knowledge _ _ c.loop.invariant.1 c.in-Answered.ensures.tried

pub loop-preserved : goal.loop-preserved
loop-preserved g c = (
  c.try_find.ensures.place ∙ c.loop.invariant.0,
  searches_more g.O.TreeOrder.order c.args.k c.args.self.now.knowledge c.loop.self.knowledge
      c.try_find.new.self.knowledge c.loop.invariant.1 c.in_default.ensures.tried,
  c.in_default.ensures.memory ∙ c.loop.invariant.2,
)

pub returns-in-Answered-clause-memory : goal.returns-in-Answered-clause-memory
returns-in-Answered-clause-memory g c = c.in-Answered.ensures.memory ∙ ap (λ m.
    memory_after m (Answered c.in-Answered.answer c.in-Answered.generation)) c.loop.invariant.2
