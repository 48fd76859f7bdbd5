use Rattle.latch_steps.proofs.Definitions.{sym}
use Rattle.latch_steps.proofs.WorldLemmas.{makes}
use Rattle.latch_steps.proofs.worlds.World.make.Goals as goal

pub returns-clause-made : goal.returns-clause-made
returns-clause-made g c =
    makes g.O.TreeOrder.order c.args.self.now c.in_ok-store.store _ c.put.new.words c.did.new.self
    (c.did.ensures.stepped c.in_ok-store.store (sym c.in_ok-store.ensures.which))
    c.in_ok-store.ensures.may
    (λ l h pictures pending. c.did.ensures.pictures l h c.in_ok-store.store pictures pending
    (sym c.in_ok-store.ensures.which))
    c.put.ensures c.counted_up-self.ensures
