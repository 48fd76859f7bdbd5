-- What is said of the bytes of a text, where these are all that its reader had.
use Rattle.texts.proofs.Words.{◌≡◌, ℕ, List, Option, Some, None, Result, Err, IfSome, subst}
use Rattle.texts.proofs.Words.{LineFault, Gives, GivesInGrammar}
use Rattle.texts.specs.declared.faults.LineFault.TheVariants as line

-- what holds of the bytes that were read holds of those that the reader had
pub of_read : (left : Option (List ℕ)) (bytes : List ℕ) (P : List ℕ → Type 0)
    → IfSome left (λ l. bytes ≡ l) → P bytes → IfSome left P
of_read None bytes P read holds = tt
of_read (Some l) bytes P read holds = subst P read holds

module _ {V C : Type 0} (view : V → C) where
  gives : (r : Result V LineFault) (said : Result C ℕ) → GivesInGrammar view r said
      → Gives view r said
  gives (Err line.Read) said is = absurd is
  gives _ said is = is

  pub gives_read : (said : List ℕ → Result C ℕ) (left : Option (List ℕ)) (bytes : List ℕ)
      (r : Result V LineFault)
      → IfSome left (λ l. bytes ≡ l) → GivesInGrammar view r (said bytes)
      → IfSome left (λ l. Gives view r (said l))
  gives_read said None bytes r whole is = tt
  gives_read said (Some l) bytes r whole is =
      subst (λ b. Gives view r (said b)) whole (gives r (said bytes) is)
