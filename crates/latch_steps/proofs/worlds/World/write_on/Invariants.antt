use Rattle.latch_steps.proofs.Definitions.{◌≡◌, Command, IsWriting, Moment, RepresentsMoment}
use Rattle.latch_steps.proofs.Definitions.{layout_in}
use Rattle.latch_steps.proofs.ReportLemmas.{Writing}
use Rattle.latch_steps.proofs.worlds.World.write_on.Given as goal

-- the writer made as many steps as the loop has turned, and none of them was the last
abbrev pub invariant-loop-turn : goal.invariant-loop-turn
invariant-loop-turn g l = record {
  layout : layout_in l.self ≡ layout_in l.initial.self;
  writes : (c : Command g.row.O-Key.Denot) → IsWriting l.fn.to_flip c
      → (w : Moment g.row.O-Key.Denot) → RepresentsMoment g.O.TreeOrder.order l.initial.self w
      → Writing g.O.TreeOrder.order (g.R.Report.reports l.report) c l.initial.self l.self
      l.initial.to l.to l._turn w;
}
