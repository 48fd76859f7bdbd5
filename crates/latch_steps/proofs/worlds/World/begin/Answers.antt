use Rattle.latch_steps.proofs.Definitions.{sym, subst, Begin, Refused, MayDo}
use Rattle.latch_steps.proofs.WorldLemmas.{begins, refused, given_up}
use Rattle.latch_steps.proofs.worlds.World.begin.Goals as goal

pub returns-in-Ok-clause-steps : goal.returns-in-Ok-clause-steps
returns-in-Ok-clause-steps g c =
    begins g.O.TreeOrder.order c.args.self.now c.args.update.now c.in-Ok.left _ c.begin.new.self
    c.in-Ok.ensures.accepted c.in-Ok.ensures.begun.0 c.in-Ok.ensures.begun.1
    c.counted_up-self.ensures

pub returns-after-why-clause-steps : goal.returns-after-why-clause-steps
returns-after-why-clause-steps g c =
    let o = g.O.TreeOrder.order in
    let err = c.in-Err.ensures in
    elim c.match-why.branch [
      | goal.in-OutOfMemory w ↦ subst
          (MayDo o c.args.self.now (Begin c.args.update.now) (Refused c.in-Err.why)) (sym w.self-is)
          (given_up o c.args.self.now c.args.update.now c.in-Err.why c.begin.new.self err.unchanged
          err.refusal w.in-OutOfMemory.is)
      | goal.in_default w ↦ subst
          (MayDo o c.args.self.now (Begin c.args.update.now) (Refused c.in-Err.why)) (sym w.self-is)
          (refused o c.args.self.now c.args.update.now c.in-Err.why _ c.begin.new.self err.unchanged
          err.refusal w.in_default.not-OutOfMemory w.counted_up-self-in_default.ensures)
    ]
