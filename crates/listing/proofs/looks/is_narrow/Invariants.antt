use Rattle.listing.proofs.Words.{◌≡◌, length, list_any, lines_of, begins_wide, is_narrow}
use Rattle.listing.proofs.Words.{is_symbol_line}
use Rattle.std.proofs.Common.{◌&&◌, ◌||◌, not}
use Rattle.listing.proofs.looks.is_narrow.Given as goal

-- what was seen, and what the rest has
abbrev pub invariant-loop-rest : goal.invariant-loop-rest
invariant-loop-rest l =
    ((l.any || list_any is_symbol_line (lines_of l.rest))
    && not (list_any (λ x. is_symbol_line x && begins_wide x) (lines_of l.rest)))
    ≡ is_narrow (lines_of l.text)

abbrev pub decreases-loop-rest : goal.decreases-loop-rest
decreases-loop-rest l = length l.rest
