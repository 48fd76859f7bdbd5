use Rattle.listing.proofs.Words.{◌≡◌, Some, false, take, list_any, has_symbols}
use Rattle.listing.proofs.listing_notes.lacks_symbols.Given as goal

-- the modules gone through have no symbols
abbrev pub invariant-loop-place : goal.invariant-loop-place
invariant-loop-place l =
    list_any (λ m. has_symbols (Some m)) (take l.place l.catalog.modules) ≡ false
