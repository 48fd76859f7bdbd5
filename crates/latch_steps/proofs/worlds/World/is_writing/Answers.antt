use Rattle.latch_steps.proofs.Definitions.{◌∙◌, ap, nat_lt}
use Rattle.latch_steps.proofs.WorldLemmas.{hand_shown}
use Rattle.latch_steps.proofs.worlds.World.is_writing.Goals as goal

pub returns : goal.returns
returns g c = λ w s. ap (nat_lt 0) c.remaining.ensures.count
    ∙ hand_shown g.O.TreeOrder.order c.args.self.now w s
