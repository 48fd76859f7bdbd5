use Rattle.listing.proofs.Words.{◌≡◌, Some, false, take, list_any, has_name}
use Rattle.listing.proofs.overlaps.lists_module.Given as goal

-- none of the modules gone through has it
abbrev pub invariant-loop-place : goal.invariant-loop-place
invariant-loop-place l =
    list_any (λ m. has_name l.name (Some m)) (take l.place l.catalog.modules) ≡ false
