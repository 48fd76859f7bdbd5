use Rattle.recordings.proofs.Words.{◌≡◌, ◌++◌, length, parts_among, texts}
use Rattle.recordings.proofs.changes.copy_among.Given as goal

-- the copies so far, and those of the rest
abbrev pub invariant-loop-rest : goal.invariant-loop-rest
invariant-loop-rest l =
    l.modules.items ++ parts_among (texts l.names) l.rest
    ≡ l.fn.modules.items ++ parts_among (texts l.names) l.now

abbrev pub decreases-loop-rest : goal.decreases-loop-rest
decreases-loop-rest l = length l.rest
