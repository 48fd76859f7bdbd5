use Rattle.modules.proofs.AloneLemmas.{sound_alone}
use Rattle.modules.proofs.SoundnessLemmas.{IsSound-catalog_with}
use Rattle.modules.proofs.laws.every_catalog_of_symbols_is_sound.Goals as goal

pub returns : goal.returns
returns c = λ names lines a h. IsSound-catalog_with a lines (sound_alone names lines a h)
