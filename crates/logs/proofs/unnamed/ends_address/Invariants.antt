use Rattle.logs.proofs.Definitions.{◌≡◌, length}
use Rattle.logs.specs.Unnamed.{ends_address}
use Rattle.logs.proofs.unnamed.ends_address.Given as goal

-- no line before has an address word
abbrev pub invariant-loop-line : goal.invariant-loop-line
invariant-loop-line l = ends_address l.is_narrow l.rest ≡ ends_address l.is_narrow l.bytes

abbrev pub decreases-loop-line : goal.decreases-loop-line
decreases-loop-line l = length l.rest
