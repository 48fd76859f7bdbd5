-- A fault that a function hands on.
use Rattle.command_parts.proofs.Words.{Result, Err, IsErrAnd, ◌≡◌}
pub use Rattle.logs.proofs.PutLemmas.{is_handed}

-- what holds of the fault on the way holds of what is returned
pub handed_on : {A F : Type 0} (P : Result A F → Type 0) (result : Result A F) (fault : F)
    → IsErrAnd result (λ f. f ≡ fault) → P (Err fault) → P result
handed_on P result fault is h = rw (is_handed result is) h
