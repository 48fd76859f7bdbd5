use Rattle.latch_weak.proofs.Words.{take, capacity_of, limit_of, opening_writer, CarriesOutAll}
use Rattle.latch_weak.proofs.Words.{HasMade}
use Rattle.latch_weak.proofs.recording.record.Given as goal

abbrev pub invariant-loop-update : goal.invariant-loop-update
invariant-loop-update g l =
    HasMade g.O.TreeOrder.order (capacity_of l.fn.l) (limit_of l.fn.l) l.start
    (take l.update-index l.updates) l.stores.items l.writer
    × CarriesOutAll g.O.TreeOrder.order (opening_writer l.fn.l l.start)
    (take l.update-index l.updates) l.stores.items l.writer
