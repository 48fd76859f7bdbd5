use Rattle.listing.proofs.Words.{◌≡◌, length, lines_of}
use Rattle.listing.specs.KernelLines.{shows_symbol}
use Rattle.listing.proofs.kernel_lines.shows_symbol.Given as goal

-- no line before the rest is a symbol
abbrev pub invariant-loop-rest : goal.invariant-loop-rest
invariant-loop-rest l = shows_symbol (lines_of l.rest) ≡ shows_symbol (lines_of l.text)

abbrev pub decreases-loop-rest : goal.decreases-loop-rest
decreases-loop-rest l = length l.rest
