use Rattle.recordings.proofs.Words.{◌≡◌, length, fold, names_of, texts, with_changed}
use Rattle.recordings.proofs.changes.put_changed.Given as goal

-- the names so far, and those of the rest
abbrev pub invariant-loop-rest : goal.invariant-loop-rest
invariant-loop-rest l =
    let put = with_changed (texts l.named) l.now l.old in
    fold put (texts l.names.items) (names_of l.rest)
    ≡ fold put (texts l.fn.names.items) (names_of l.asked)

abbrev pub decreases-loop-rest : goal.decreases-loop-rest
decreases-loop-rest l = length l.rest
