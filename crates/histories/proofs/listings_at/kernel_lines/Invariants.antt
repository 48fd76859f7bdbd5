use Rattle.histories.proofs.Words.{◌≡◌, ◌++◌, length, kernel_lines}
use Rattle.histories.proofs.listings_at.kernel_lines.Given as goal

abbrev pub invariant-loop-rest : goal.invariant-loop-rest
invariant-loop-rest l = l.out.items ++ kernel_lines l.rest ≡ kernel_lines l.listing

abbrev pub decreases-loop-rest : goal.decreases-loop-rest
decreases-loop-rest l = length l.rest
