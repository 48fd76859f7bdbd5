use Rattle.modules.proofs.Words.{◌≡◌, take, starts_of}
use Rattle.modules.proofs.loads.starts_of.Given as goal

abbrev pub invariant-loop-place : goal.invariant-loop-place
invariant-loop-place l =
    l.starts.items ≡ starts_of l.core l.init (take l.place l.regions) (take l.place l.parts)
