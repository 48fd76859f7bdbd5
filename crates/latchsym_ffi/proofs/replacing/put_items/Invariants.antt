use Rattle.latchsym_ffi.proofs.Words.{◌≡◌, ◌++◌, map, take, drop, item_told}
use Rattle.latchsym_ffi.proofs.replacing.put_items.Given as goal

abbrev pub invariant-loop-place : goal.invariant-loop-place
invariant-loop-place l = l.out ≡ map item_told (take l.place l.items) ++ drop l.place l.initial.out
