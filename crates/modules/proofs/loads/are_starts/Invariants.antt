use Rattle.modules.proofs.Words.{◌≡◌, ◌≤◌, length, take, starts_of}
use Rattle.modules.proofs.loads.are_starts.Given as goal

abbrev pub invariant-loop-place : goal.invariant-loop-place
invariant-loop-place l =
    record {
      begins : starts_of l.core l.init (take l.place l.regions) (take l.place l.parts)
          ≡ take l.count l.words;
      bounded : l.count ≤ length l.words;
    }
