use Rattle.recordings.proofs.Words.{◌≡◌, length, has_lost}
use Rattle.recordings.proofs.events.has_lost.Given as goal

-- the word begins nowhere before the rest
abbrev pub invariant-loop-rest : goal.invariant-loop-rest
invariant-loop-rest l = has_lost l.rest ≡ has_lost l.bytes

abbrev pub decreases-loop-rest : goal.decreases-loop-rest
decreases-loop-rest l = length l.rest
