use Rattle.listing.proofs.Words.{◌≡◌, length, list_any, lines_of, is_module_line}
use Rattle.listing.proofs.looks.lacks_module_lines.Given as goal

-- no line before the rest is well formed
abbrev pub invariant-loop-rest : goal.invariant-loop-rest
invariant-loop-rest l =
    list_any is_module_line (lines_of l.rest) ≡ list_any is_module_line (lines_of l.text)

abbrev pub decreases-loop-rest : goal.decreases-loop-rest
decreases-loop-rest l = length l.rest
