use Rattle.latchsym.proofs.Words.{◌≡◌, map}
use Rattle.std.specs.Prelude.{find, length}
use Rattle.latchsym.specs.Wildcards.{has_wildcard}
use Rattle.latchsym.proofs.wildcards.first_with_wildcard.Given as goal

-- the first is among the rest
abbrev pub invariant-loop-rest : goal.invariant-loop-rest
invariant-loop-rest l =
    find has_wildcard (map (λ n. n.now) l.rest) ≡ find has_wildcard (map (λ n. n.now) l.names)

abbrev pub decreases-loop-rest : goal.decreases-loop-rest
decreases-loop-rest l = length l.rest
