use Rattle.latch_steps.proofs.Definitions.{◌≡◌, length, Moment, RepresentsMoment, layout_in}
use Rattle.latch_steps.proofs.AtOnceLemmas.{Writing}
use Rattle.latch_steps.proofs.worlds.World.settle.Given as goal

abbrev pub invariant-loop : goal.invariant-loop
invariant-loop g l =
    record {
      layout : layout_in l.self ≡ layout_in l.initial.self;
      writing : (w : Moment g.row.O-Key.Denot)
          → RepresentsMoment g.O.TreeOrder.order l.initial.self w
          → Writing g.O.TreeOrder.order l.initial.self l.self w;
    }

abbrev pub decreases-loop : goal.decreases-loop
decreases-loop g l = length l.self.writer.stores_left
