use Rattle.listing.proofs.Words.{◌≡◌, ◌≤◌, length, take, without_blank_end}
use Rattle.listing.proofs.addresses.without_blank_end.Given as goal

-- behind the place are blanks alone
abbrev pub invariant-loop-end : goal.invariant-loop-end
invariant-loop-end l =
    (l.end ≤ length l.text) × (without_blank_end (take l.end l.text) ≡ without_blank_end l.text)

abbrev pub decreases-loop-end : goal.decreases-loop-end
decreases-loop-end l = l.end
