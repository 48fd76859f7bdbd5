use Rattle.logs.proofs.Definitions.{◌≡◌, length, is_lead}
use Rattle.logs.proofs.places.is_lead.Given as goal

abbrev pub invariant-loop-rest : goal.invariant-loop-rest
invariant-loop-rest l = is_lead 0 l.bytes ≡ is_lead 0 l.rest

abbrev pub decreases-loop-rest : goal.decreases-loop-rest
decreases-loop-rest l = length l.rest
