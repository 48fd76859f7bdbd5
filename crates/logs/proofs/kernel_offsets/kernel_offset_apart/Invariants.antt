use Rattle.logs.proofs.Definitions.{◌≡◌, length, kernel_offset_in}
use Rattle.logs.proofs.kernel_offsets.kernel_offset_apart.Given as goal

abbrev pub invariant-loop-rest : goal.invariant-loop-rest
invariant-loop-rest l = kernel_offset_in l.log ≡ kernel_offset_in l.rest

abbrev pub decreases-loop-rest : goal.decreases-loop-rest
decreases-loop-rest l = length l.rest
