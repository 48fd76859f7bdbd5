use Rattle.latch_weak.proofs.Words.{◌≡◌, List, [], ◌∷◌, ◌++◌, length, Store, Continues}
use Rattle.latch_weak.proofs.RecordingLemmas.{IsCarryingOut}
use Rattle.latch_weak.proofs.recording.carry_out.Given as goal

abbrev pub invariant-loop-store : goal.invariant-loop-store
invariant-loop-store g l =
    Continues g.O.TreeOrder.order l.fn.stores.items l.fn.writer (l.update ∷ []) l.stores.items
    l.writer
    × ((made : List Store) × IsCarryingOut g.O.TreeOrder.order l.fn.writer l.update made l.writer
    × (l.stores.items ≡ l.fn.stores.items ++ made))

abbrev pub decreases-loop-store : goal.decreases-loop-store
decreases-loop-store g l = length l.writer.stores_left
