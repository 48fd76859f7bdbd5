use Rattle.latchsym_ffi.proofs.Words.{◌≡◌, ◌++◌, map, take, drop, told_at}
use Rattle.latchsym_ffi.proofs.batches.answer_all.Given as goal

abbrev pub invariant-loop-place : goal.invariant-loop-place
invariant-loop-place l =
    (l.finder ≡ l.catalog)
    × (l.out ≡ map (told_at l.catalog) (take l.place l.addrs) ++ drop l.place l.initial.out)
