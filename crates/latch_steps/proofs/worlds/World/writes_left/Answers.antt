use Rattle.latch_steps.proofs.WorldLemmas.{left_shown}
use Rattle.latch_steps.proofs.worlds.World.writes_left.Goals as goal

pub returns : goal.returns
returns g c = λ w s. left_shown g.O.TreeOrder.order c.args.self.now w s c.remaining.result
    c.remaining.ensures.count c.remaining.ensures.left
