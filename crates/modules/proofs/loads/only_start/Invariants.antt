use Rattle.modules.proofs.Words.{◌≡◌, ◌≤◌, [], ◌∷◌, length, take, starts_of}
use Rattle.modules.proofs.loads.only_start.Given as goal

abbrev pub invariant-loop-place : goal.invariant-loop-place
invariant-loop-place l =
    record {
      counted : l.count
          ≡ length (starts_of l.core l.init (take l.place l.regions) (take l.place l.parts));
      bounded : l.count ≤ l.place;
      one : l.count ≡ 1
          → starts_of l.core l.init (take l.place l.regions) (take l.place l.parts) ≡ l.last ∷ [];
    }
