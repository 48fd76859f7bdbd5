use Rattle.latch_weak.proofs.ReaderLemmas.{looked_next, next_ready}
use Rattle.latch_weak.proofs.attempts.Moments.look_next.Goals as goal

pub look-requires-clause-reader : goal.look-requires-clause-reader
look-requires-clause-reader g c =
    next_ready (g.S.LoadSchedule.chooses c.args.self.now.schedule.now) _ _ _ _ _ _ c.requires.reader
    c.stand_before.ensures

pub returns : goal.returns
returns g c =
    looked_next _ _ _ _ _ _ _ _ _ c.stand_before.ensures c.look.ensures
