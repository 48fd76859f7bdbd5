use Rattle.recordings.proofs.Words.{◌≡◌, ◌++◌, length, named_in, texts}
use Rattle.recordings.proofs.recording.named_in.Given as goal

-- the names so far, and those of the rest
abbrev pub invariant-loop-rest : goal.invariant-loop-rest
invariant-loop-rest l = texts l.names.items ++ named_in l.rest ≡ named_in l.said

abbrev pub decreases-loop-rest : goal.decreases-loop-rest
decreases-loop-rest l = length l.rest
