-- What is returned where a history is read.
use Rattle.command_parts.proofs.Words.{◌≡◌, ℕ, List, Option, Some, None, Result, Ok, Err, IfSome}
use Rattle.command_parts.proofs.Words.{inl, refl, IsErrAnd}
use Rattle.std.specs.Global.{Vec}
use Rattle.texts.specs.Counted.{NoneFailed, device_of, failures_of}
use Rattle.texts.specs.declared.counted.Counted.{Counted}
use Rattle.texts.specs.declared.output.Output.{Output}
use Rattle.logs.specs.Lines.{lines}
use Rattle.histories.specs.Grammar.{HistoryPart, history_of}
use Rattle.order_laws.specs.declared.refusals.Refusal.TheVariants as refusal
use Rattle.command_parts.specs.HistoryFiles.{AnswersHistory, GivesHistory, IsNoHistory, IsSaidBy}
use Rattle.command_parts.specs.HistoryFiles.{ReadsListingAt}
use Rattle.command_parts.specs.Readings.{IsReadAs}
use Rattle.command_parts.specs.declared.fault.Fault.{Fault}
use Rattle.command_parts.specs.declared.fault.Fault.TheVariants.{Refused, BadLine, Read}
use Rattle.command_parts.specs.declared.opened_catalogs.ListingTexts.{ListingTexts}

-- what bytes say is what the text says that they are, if it is known
said_if_known : (known : Option (List ℕ)) (bytes : List ℕ) (said : Result (List HistoryPart) ℕ)
    → IfSome known (λ text. bytes ≡ text) → history_of (lines bytes) ≡ said
    → IfSome known (λ text. history_of (lines text) ≡ said)
said_if_known None bytes said read is = tt
said_if_known (Some text) bytes said read is = rw read at is

module _ {R : Type 0} (remaining : R → Option (List ℕ)) (r r' : Counted R) where
  -- the file was read whole
  pub read_said : (bytes : List ℕ) (said : Result (List HistoryPart) ℕ)
      → IfSome (remaining (device_of r)) (λ text. bytes ≡ text) → history_of (lines bytes) ≡ said
      → IsSaidBy remaining r said
  read_said bytes said read is = said_if_known (remaining (device_of r)) bytes said read is

  -- it was not read
  pub unread : (f : Fault) → IsReadAs {A = Vec ℕ} 1 (failures_of r) (failures_of r') (Err f)
      → IsNoHistory remaining r r' f
  unread (Refused refusal.OutOfMemory) h = h
  unread (Read place) h = h
  unread _ h = absurd h

  -- it is no history
  pub not_understood : (bytes : List ℕ) (f : Fault) → NoneFailed r r'
      → IfSome (remaining (device_of r)) (λ text. bytes ≡ text)
      → GivesHistory (history_of (lines bytes)) (Err f) → IsNoHistory remaining r r' f
  not_understood bytes (Refused refusal.OutOfMemory) none read h = none
  not_understood bytes (BadLine place n) none read h = (none, h.0, read_said bytes (Err n) read h.1)
  not_understood bytes _ none read h = absurd h

  -- there is no history, and that is returned
  pub no_history : {A W : Type 0} (Answers : List HistoryPart → Result A Fault → Type 0)
      (w : Output W) (result : Result A Fault) (fault : Fault) → IsErrAnd result (λ f. f ≡ fault)
      → IsNoHistory remaining r r' fault
      → AnswersHistory remaining Answers r r' w w result
  no_history Answers w (Ok done) fault is h = absurd is
  no_history Answers w (Err f) fault is h =
      inl (rw is h, refl)

  -- the same of a listing
  pub no_listing : (time : Option ℕ) (result : Result ListingTexts Fault) (fault : Fault)
      → IsErrAnd result (λ f. f ≡ fault) → IsNoHistory remaining r r' fault
      → ReadsListingAt remaining time r r' result
  no_listing time (Ok texts) fault is h = absurd is
  no_listing time (Err f) fault is h = rw is h
