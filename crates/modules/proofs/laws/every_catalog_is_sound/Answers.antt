use Rattle.modules.proofs.SoundnessLemmas.{IsSound-catalog_of, few_in_catalog}
use Rattle.modules.proofs.laws.every_catalog_is_sound.Goals as goal

pub returns-clause-sound : goal.returns-clause-sound
returns-clause-sound c = λ names modules regions symbols fit regions_fit few.
    IsSound-catalog_of names modules regions symbols fit regions_fit

pub returns-clause-few : goal.returns-clause-few
returns-clause-few c = few_in_catalog
