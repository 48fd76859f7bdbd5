use Rattle.latch_steps.proofs.Definitions.{sym, subst, Write, Idle, World, Does, IsAtRest}
use Rattle.latch_steps.proofs.WorldLemmas.{idles}
use Rattle.latch_steps.proofs.worlds.World.write.Goals as goal

pub returns-in-None-clause-steps : goal.returns-in-None-clause-steps
returns-in-None-clause-steps g c =
    let o = g.O.TreeOrder.order in
    let made = c.make.new.self in
    let none = c.in-None.ensures.none in
    subst (λ (old : World g.row.O.Denot g.row.O-Key.Denot).
    Does o old Write Idle (record made { events = c.counted_up-self.result })) none.0
    (idles o made c.counted_up-self.result (subst (IsAtRest o) (sym none.0) none.1)
    c.counted_up-self.ensures)
