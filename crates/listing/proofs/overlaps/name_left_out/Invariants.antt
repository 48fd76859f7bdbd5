use Rattle.listing.proofs.Words.{◌≡◌, length, list_any, lines_of, modules_in, names_left_out}
use Rattle.listing.proofs.Words.{symbols_in}
use Rattle.listing.proofs.overlaps.name_left_out.Given as goal

-- no symbol before the rest names one
abbrev pub invariant-loop-rest : goal.invariant-loop-rest
invariant-loop-rest l =
    list_any (names_left_out (modules_in (lines_of l.text)) l.catalog)
    (symbols_in (lines_of l.rest)) ≡ list_any
    (names_left_out (modules_in (lines_of l.text)) l.catalog) (symbols_in (lines_of l.kallsyms))

abbrev pub decreases-loop-rest : goal.decreases-loop-rest
decreases-loop-rest l = length l.rest
