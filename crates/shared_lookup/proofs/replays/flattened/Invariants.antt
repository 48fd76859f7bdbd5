use Rattle.shared_lookup.proofs.Words.{◌≡◌, take, answers_at, entries}
use Rattle.shared_lookup.proofs.replays.flattened.Given as goal

abbrev pub invariant-loop-list : goal.invariant-loop-list
invariant-loop-list l = answers_at l.all.items ≡ entries (take l.list-index l.answers)
