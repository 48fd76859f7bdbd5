use Rattle.latch_core.proofs.SoundLemmas.{sound_step, sound_begin}
use Rattle.latch_core.proofs.WideningLemmas.{widened_sound}
use Rattle.latch_core.proofs.laws.latch_stays_sound.Goals as goal

pub returns-clause-step : goal.returns-clause-step
returns-clause-step g c = λ n start us l h s sound pending may.
    sound_step g.O.TreeOrder.order n start us l h s sound pending may

pub returns-clause-begin : goal.returns-clause-begin
returns-clause-begin g c = λ n limit start us l u left sound free accepted. sound_begin
    g.O.TreeOrder.order g.met.O.TreeOrder.lawful n limit start us l u left sound free accepted

pub returns-clause-widen : goal.returns-clause-widen
returns-clause-widen g c =
    λ n n' start us l le sound. widened_sound g.O.TreeOrder.order n n' start us l le sound
