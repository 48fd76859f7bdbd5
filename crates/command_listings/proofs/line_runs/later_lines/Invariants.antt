use Rattle.command_listings.proofs.Words.{◌≡◌, ◌++◌, List, ℕ, length}
use Rattle.command_listings.proofs.RunLemmas.{GoesOnTo}
use Rattle.command_listings.proofs.line_runs.later_lines.Given as goal

-- the bytes before the rest are lines that the listing names
abbrev pub invariant-loop-line : goal.invariant-loop-line
invariant-loop-line l =
    (done : List ℕ) × (l.bytes ≡ done ++ l.rest)
    × GoesOnTo l.history l.is_narrow l.listing.count l.fn.times l.times done

abbrev pub decreases-loop-line : goal.decreases-loop-line
decreases-loop-line l = length l.rest
