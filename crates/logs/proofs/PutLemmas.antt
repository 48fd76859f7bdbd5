-- What a failed write leaves.
use Rattle.logs.proofs.Definitions.{◌≡◌, ◌∙◌, ◌++◌, List, [], ℕ, Result, Ok, Err, ap, IfErr, IfOk}
use Rattle.logs.proofs.Definitions.{OnErr, Output, Delivered, WrotePart, error_in, Adds}
use Rattle.logs.proofs.Definitions.{IsWriteFault, Puts, LogFault}
use Rattle.std.proofs.Common.{Option}
use Rattle.std.specs.Prelude.{IsErrAnd}
use Rattle.texts.proofs.OutputLemmas.{all_delivered, part_written, then_flushed}
use Rattle.logs.specs.declared.annotation.LogFault.TheVariants as fault

-- a fault that is handed on
pub is_handed : {A F : Type 0} {fault : F} (result : Result A F) → IsErrAnd result (λ f. f ≡ fault)
    → result ≡ Err fault
is_handed (Ok done) is = absurd is
is_handed (Err f) is = ap Err is

-- a text that was added to nothing
pub added : (out out' text : List ℕ) (P : List ℕ → Type 0) → out ≡ [] → text ≡ out'
    → Adds out out' P → P text
added out out' text P none same (more, put, holds) =
    rw (same ∙ put ∙ ap (λ o. o ++ more) none) holds

module _ {W X : Type 0} (contents : W → Option (List ℕ)) (P : X → List ℕ → Type 0)
    (w w' : Output W) where
  pub fault_puts : (x : X) (text : List ℕ) (e : LogFault) → P x text → IsWriteFault (error_in w') e
      → WrotePart contents w w' text → Puts contents P w w' (Err e)
  fault_puts x text fault.Write holds is part = ((text, x, part, holds), is)
  fault_puts x text fault.Closed holds is part = ((text, x, part, holds), is)
  fault_puts x text fault.OutOfMemory holds is part = absurd is
  fault_puts x text fault.Read holds is part = absurd is
  fault_puts x text fault.TooLong holds is part = absurd is

pub puts : {W : Type 0} (contents : W → Option (List ℕ)) (P : List ℕ → Type 0) (w w' : Output W)
    (text : List ℕ) (result : Result (Unit {0}) LogFault) → P text
    → IfOk result (λ _. Delivered contents w w' text) → IfErr result (IsWriteFault (error_in w'))
    → OnErr result (WrotePart contents w w' text)
    → Puts contents (λ (u : Unit {0}). P) w w' result
puts contents P w w' text (Ok u) holds written is begun = (text, written, holds)
puts contents P w w' text (Err e) holds written is begun =
    fault_puts contents (λ (u : Unit {0}). P) w w' tt text e holds is begun

-- what is put and flushed is written, or a beginning of it
pub ruleset put_through = (all_delivered, part_written, then_flushed)

-- a text that was not put whole, as what is made of its value is returned with it
pub puts_as : {W X Y : Type 0} (contents : W → Option (List ℕ)) (P : X → List ℕ → Type 0)
    (Q : Y → List ℕ → Type 0) (w w' : Output W) (other : X → Y)
    → ((x : X) (text : List ℕ) → P x text → Q (other x) text) → (f : LogFault)
    → Puts contents P w w' (Err f) → Puts contents Q w w' (Err f)
puts_as contents P Q w w' other less fault.OutOfMemory same = same
puts_as contents P Q w w' other less fault.Read ((text, x, part, holds), is) =
    ((text, other x, part, less x text holds), is)
puts_as contents P Q w w' other less fault.Write ((text, x, part, holds), is) =
    ((text, other x, part, less x text holds), is)
puts_as contents P Q w w' other less fault.Closed ((text, x, part, holds), is) =
    ((text, other x, part, less x text holds), is)
puts_as contents P Q w w' other less fault.TooLong ((text, x, part, holds), is) =
    ((text, other x, part, less x text holds), is)

-- what holds less of what is put
pub puts_less : {W X : Type 0} (contents : W → Option (List ℕ)) (P Q : X → List ℕ → Type 0)
    (w w' : Output W) → ((x : X) (text : List ℕ) → P x text → Q x text) → (put : Result X LogFault)
    → Puts contents P w w' put → Puts contents Q w w' put
puts_less contents P Q w w' less (Ok x) (text, written, holds) = (text, written, less x text holds)
puts_less contents P Q w w' less (Err f) puts = puts_as contents P Q w w' (λ x. x) less f puts

-- the same with one value for all
pub puts_failed : {W X Y : Type 0} (contents : W → Option (List ℕ)) (P : X → List ℕ → Type 0)
    (Q : Y → List ℕ → Type 0) (w w' : Output W) (y : Y)
    → ((x : X) (text : List ℕ) → P x text → Q y text) → (f : LogFault)
    → Puts contents P w w' (Err f) → Puts contents Q w w' (Err f)
puts_failed contents P Q w w' y less f puts = puts_as contents P Q w w' (λ x. y) less f puts
