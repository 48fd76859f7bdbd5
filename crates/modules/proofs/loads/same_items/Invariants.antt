use Rattle.modules.proofs.Words.{◌≡◌, drop, same_items}
use Rattle.modules.proofs.loads.same_items.Given as goal

abbrev pub invariant-loop-place : goal.invariant-loop-place
invariant-loop-place l =
    same_items l.number l.regions l.items
    ≡ same_items l.number (drop l.place l.regions) (drop l.place l.items)
