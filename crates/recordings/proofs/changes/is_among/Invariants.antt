use Rattle.recordings.proofs.Words.{◌≡◌, length, is_among, texts}
use Rattle.recordings.proofs.changes.is_among.Given as goal

-- none before the rest is it
abbrev pub invariant-loop-rest : goal.invariant-loop-rest
invariant-loop-rest l = is_among (texts l.rest) l.name ≡ is_among (texts l.names) l.name

abbrev pub decreases-loop-rest : goal.decreases-loop-rest
decreases-loop-rest l = length l.rest
