use Rattle.latch_steps.proofs.RecordingLemmas.{driven_whole}
use Rattle.latch_steps.proofs.drivers.Driver.finish.Goals as goal

pub returns-clause-notes : goal.returns-clause-notes
returns-clause-notes g c =
    driven_whole g.O.TreeOrder.order g.met.O.TreeOrder.lawful c.args.self c.in_ok-left.left
    c.in_ok-left.ensures.notes
