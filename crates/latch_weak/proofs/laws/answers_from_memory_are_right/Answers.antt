use Rattle.latch_weak.proofs.SafeLemmas.{right_from_memory}
use Rattle.latch_weak.proofs.laws.answers_from_memory_are_right.Goals as goal

pub returns : goal.returns
returns g c = right_from_memory g.O.TreeOrder.order g.met.O.TreeOrder.lawful
