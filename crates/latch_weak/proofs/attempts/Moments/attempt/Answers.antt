use Rattle.latch_weak.proofs.Words.{capacity_of}
use Rattle.latch_weak.proofs.ReaderLemmas.{ready, attempted}
use Rattle.latch_weak.proofs.attempts.Moments.attempt.Goals as goal

pub attempt_from-requires-clause-ready : goal.attempt_from-requires-clause-ready
attempt_from-requires-clause-ready g c =
    ready _ c.args.self.now.barriers _ _ g.O.TreeOrder.order (capacity_of c.args.l) c.args.key _ _
    c.look_first-first.ensures.still

pub returns : goal.returns
returns g c =
    attempted _ _ _ _ _ _ _ _ _ _ _ _ _ c.look_first-first.ensures c.look_first-first.ensures.still
    c.attempt_from.ensures
