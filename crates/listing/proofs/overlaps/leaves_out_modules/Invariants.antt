use Rattle.listing.proofs.Words.{◌≡◌, length, list_any, lines_of, modules_in, is_left_out}
use Rattle.listing.proofs.overlaps.leaves_out_modules.Given as goal

-- no module before the rest is left out
abbrev pub invariant-loop-rest : goal.invariant-loop-rest
invariant-loop-rest l =
    list_any (λ m. is_left_out l.catalog m.name) (modules_in (lines_of l.rest))
    ≡ list_any (λ m. is_left_out l.catalog m.name) (modules_in (lines_of l.text))

abbrev pub decreases-loop-rest : goal.decreases-loop-rest
decreases-loop-rest l = length l.rest
