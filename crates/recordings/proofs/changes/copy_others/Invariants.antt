use Rattle.recordings.proofs.Words.{◌≡◌, ◌++◌, filter, length, is_left, texts}
use Rattle.recordings.proofs.changes.copy_others.Given as goal

-- the copies so far, and those of the rest
abbrev pub invariant-loop-rest : goal.invariant-loop-rest
invariant-loop-rest l =
    let left = is_left l.name (texts l.names) in
    l.modules.items ++ filter left l.rest ≡ l.fn.modules.items ++ filter left l.old

abbrev pub decreases-loop-rest : goal.decreases-loop-rest
decreases-loop-rest l = length l.rest
