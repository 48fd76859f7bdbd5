use Rattle.latch_steps.proofs.Definitions.{◌∙◌}
use Rattle.latch_steps.proofs.AtOnceLemmas.{one_write, all_written, is_settled}
use Rattle.latch_steps.proofs.worlds.World.settle.Goals as goal

pub loop-preserved : goal.loop-preserved
loop-preserved g c =
    let kept = c.loop.invariant in
    let made = c.in-Some.ensures in
    record {
      layout = made.layout ∙ kept.layout;
      writing = λ w s. one_write g.O.TreeOrder.order c.args.self.now c.loop.self c.make.new.self
          c.in-Some.field-0 w (kept.writing w s) kept.layout made.made;
    }

pub returns-clause-settled : goal.returns-clause-settled
returns-clause-settled g c = λ start us.
    let o = g.O.TreeOrder.order in
    let rest = c.in_default.ensures.none in
    is_settled o c.args.self.now g.met.O.TreeOrder.lawful c.make.new.self start us
    (c.in_default.ensures.layout ∙ c.loop.invariant.layout)
    (λ w s. all_written o c.args.self.now c.loop.self c.make.new.self w
    (c.loop.invariant.writing w s) rest.1 rest.0)
