use Rattle.latch_core.proofs.SoundLemmas.{standing_step}
use Rattle.latch_core.proofs.laws.loaded_values_stand.Goals as goal

pub returns-clause-step : goal.returns-clause-step
returns-clause-step g c = standing_step g.O.TreeOrder.order
