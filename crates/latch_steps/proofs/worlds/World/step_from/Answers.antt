use Rattle.latch_steps.proofs.Definitions.{sym, subst, Event, IsWorldStep}
use Rattle.latch_steps.proofs.AtOnceLemmas.{event_after}
use Rattle.latch_steps.proofs.worlds.World.step_from.Goals as goal

pub returns-in-Begin-clause-after : goal.returns-in-Begin-clause-after
returns-in-Begin-clause-after g c =
    event_after g.met.O.TreeOrder.lawful c.begin.ensures.layout c.in-Begin.is c.begin.result
    c.begin.ensures.steps

pub returns-in-Write-clause-after : goal.returns-in-Write-clause-after
returns-in-Write-clause-after g c =
    event_after g.met.O.TreeOrder.lawful c.write.ensures.layout c.in-Write.is c.write.result
    c.write.ensures.steps

pub returns-in-Start-clause-after : goal.returns-in-Start-clause-after
returns-in-Start-clause-after g c =
    event_after g.met.O.TreeOrder.lawful c.start.ensures.layout c.in-Start.is c.start.result
    c.start.ensures.steps

pub returns-in-Read-clause-after : goal.returns-in-Read-clause-after
returns-in-Read-clause-after g c =
    event_after g.met.O.TreeOrder.lawful c.read.ensures.layout c.in-Read.is c.read.result
    c.read.ensures.steps

pub returns-in-Start-clause-steps : goal.returns-in-Start-clause-steps
returns-in-Start-clause-steps g c =
    subst (λ (e : Event g.row.O-Key.Denot). IsWorldStep g.O.TreeOrder.order c.args.self.now e
    c.start.result c.start.new.self) (sym c.in-Start.is) c.start.ensures.steps
