use Rattle.recordings.proofs.Words.{◌≡◌, length, is_some, needs}
use Rattle.recordings.proofs.recording.Recording.needs.Given as goal

-- no line before the rest asks
abbrev pub invariant-loop-rest : goal.invariant-loop-rest
invariant-loop-rest l =
    needs (is_some l.fn.self.modules) l.is_lost l.rest
    ≡ needs (is_some l.fn.self.modules) l.fn.self.is_lost l.said

abbrev pub decreases-loop-rest : goal.decreases-loop-rest
decreases-loop-rest l = length l.rest
