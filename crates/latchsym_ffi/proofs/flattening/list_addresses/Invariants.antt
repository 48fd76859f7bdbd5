use Rattle.latchsym_ffi.proofs.Words.{◌≡◌, ◌++◌, drop, map, take}
use Rattle.latchsym_ffi.proofs.flattening.list_addresses.Given as goal

abbrev pub invariant-loop-place : goal.invariant-loop-place
invariant-loop-place l =
    l.addresses ≡ map (λ r. r.addr) (take l.place l.rows) ++ drop l.place l.initial.addresses
