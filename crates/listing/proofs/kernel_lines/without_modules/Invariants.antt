use Rattle.listing.proofs.Words.{◌≡◌, ◌++◌, length, lines_of}
use Rattle.listing.specs.KernelLines.{without_modules}
use Rattle.listing.proofs.kernel_lines.without_modules.Given as goal

-- what is kept, and what is kept of the rest, is what is kept of all
abbrev pub invariant-loop-rest : goal.invariant-loop-rest
invariant-loop-rest l =
    l.kept.items ++ without_modules (lines_of l.rest) ≡ without_modules (lines_of l.text)

abbrev pub decreases-loop-rest : goal.decreases-loop-rest
decreases-loop-rest l = length l.rest
