use Rattle.latch_core.proofs.Words.{capacity_of}
use Rattle.latch_core.proofs.LoadingLemmas.{comes_to}
use Rattle.latch_core.proofs.attempts.attempt_in.Goals as goal

pub returns-clause-outcome : goal.returns-clause-outcome
returns-clause-outcome g c = (comes_to g.O.TreeOrder.order (capacity_of c.args.l) c.args.key
    c.args.words.now _ _ _ _ c.attempt_from.ensures).0

pub returns-clause-loads : goal.returns-clause-loads
returns-clause-loads g c = (comes_to g.O.TreeOrder.order (capacity_of c.args.l) c.args.key
    c.args.words.now _ _ _ _ c.attempt_from.ensures).1
