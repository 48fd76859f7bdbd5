use Rattle.listing.proofs.Words.{◌≡◌, length, lines_of, symbols_in}
use Rattle.modules.specs.Lines.{first_address}
use Rattle.listing.proofs.kernel_lines.first_address.Given as goal

-- no line before the rest is that symbol
abbrev pub invariant-loop-rest : goal.invariant-loop-rest
invariant-loop-rest l =
    first_address l.name (symbols_in (lines_of l.rest))
    ≡ first_address l.name (symbols_in (lines_of l.text))

abbrev pub decreases-loop-rest : goal.decreases-loop-rest
decreases-loop-rest l = length l.rest
