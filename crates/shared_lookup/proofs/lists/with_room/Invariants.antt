use Rattle.shared_lookup.proofs.Words.{take, HaveRoom}
use Rattle.shared_lookup.proofs.lists.with_room.Given as goal

abbrev pub invariant-loop-list : goal.invariant-loop-list
invariant-loop-list l = HaveRoom (take l.list-index l.changes) l.lists.items
