use Rattle.logs.proofs.Definitions.{◌≡◌, length, begins_like}
use Rattle.logs.proofs.places.begins_like.Given as goal

abbrev pub invariant-loop-signs : goal.invariant-loop-signs
invariant-loop-signs l = begins_like l.shape l.bytes ≡ begins_like l.signs l.rest

abbrev pub decreases-loop-signs : goal.decreases-loop-signs
decreases-loop-signs l = length l.signs
