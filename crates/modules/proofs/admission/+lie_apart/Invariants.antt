use Rattle.modules.proofs.Words.{length}
use Rattle.modules.proofs.admission.+lie_apart.Given as goal

abbrev pub decreases-lie_apart : goal.decreases-lie_apart
decreases-lie_apart l = length l.regions.now
