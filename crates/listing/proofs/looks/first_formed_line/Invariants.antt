use Rattle.listing.proofs.Words.{◌≡◌, length, find, lines_of, is_module_line, is_symbol_line}
use Rattle.std.proofs.Common.{◌||◌}
use Rattle.listing.proofs.looks.first_formed_line.Given as goal

-- no line before the rest is well formed
abbrev pub invariant-loop-rest : goal.invariant-loop-rest
invariant-loop-rest l =
    find (λ x. is_module_line x || is_symbol_line x) (lines_of l.rest)
    ≡ find (λ x. is_module_line x || is_symbol_line x) (lines_of l.text)

abbrev pub decreases-loop-rest : goal.decreases-loop-rest
decreases-loop-rest l = length l.rest
