use Rattle.listing.proofs.Words.{◌≡◌, length, lines_of, modules_in, is_listed_name}
use Rattle.listing.proofs.overlaps.is_listed_name.Given as goal

-- no module before the rest has it
abbrev pub invariant-loop-name : goal.invariant-loop-name
invariant-loop-name l = is_listed_name (modules_in (lines_of l.rest)) l.name
    ≡ is_listed_name (modules_in (lines_of l.text)) l.name

abbrev pub decreases-loop-name : goal.decreases-loop-name
decreases-loop-name l = length l.rest
