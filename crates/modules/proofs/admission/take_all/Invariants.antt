use Rattle.modules.proofs.AdmissionLemmas.{IsTaking}
use Rattle.modules.proofs.admission.take_all.Given as goal

abbrev pub invariant-loop-region : goal.invariant-loop-region
invariant-loop-region l = IsTaking l.fn.taken l.taken l.region-index l.regions
