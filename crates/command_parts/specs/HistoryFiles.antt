-- What is returned by calls that read a history in place of a listing of symbols.
use Rattle.std.specs.Prelude.{◌≡◌, ◌⊎◌, ℕ, List, Option, None, Result, Ok, Err, IfSome, IsErrAnd}
use Rattle.texts.specs.Counted.{NoneFailed, Rose, device_of, failures_of}
use Rattle.texts.specs.declared.counted.Counted.{Counted}
use Rattle.texts.specs.declared.output.Output.{Output}
use Rattle.order_laws.specs.declared.refusals.Refusal.TheVariants as refusal
use Rattle.listing.specs.Opening.{Given, given}
use Rattle.logs.specs.Lines.{lines}
use Rattle.histories.specs.Grammar.{HistoryPart, history_of}
use Rattle.histories.specs.ListingsAt.{listing_at}
use Rattle.histories.specs.declared.history.History.{History}
use Rattle.command_parts.specs.OpenedCatalogs.{texts_in}
use Rattle.command_parts.specs.declared.fault.Fault.{Fault}
use Rattle.command_parts.specs.declared.fault.Fault.TheVariants.{Refused, BadLine, Read}
use Rattle.command_parts.specs.declared.opened_catalogs.ListingTexts.{ListingTexts}

-- a listing of symbols with this text, with none of modules and none of regions
abbrev pub symbols_alone : List ℕ → Given
symbols_alone text = given None text None

-- What is returned for the bytes of a history, if its lines say this. It is the file at place 1.
abbrev pub GivesHistory : Result (List HistoryPart) ℕ → Result History Fault → Type 0
GivesHistory said (Ok history) = said ≡ Ok history
GivesHistory said (Err (Refused refusal.OutOfMemory)) = Unit {0}
GivesHistory said (Err (BadLine place n)) = (place ≡ 1) × (said ≡ Err n)
GivesHistory said (Err _) = ⊥

module _ {R : Type 0} (remaining : R → Option (List ℕ)) where
  -- what the lines of the file say that a reader gives is this, if that is known
  abbrev pub IsSaidBy : Counted R → Result (List HistoryPart) ℕ → Type 0
  IsSaidBy r said = IfSome (remaining (device_of r)) (λ text. history_of (lines text) ≡ said)

  -- a history was read whole, and has these parts
  abbrev pub IsHistoryRead : Counted R → Counted R → List HistoryPart → Type 0
  IsHistoryRead r r' parts = NoneFailed r r' × IsSaidBy r (Ok parts)

  -- why there is no history: memory ran out, a call of the reader failed, or this line is the first
  -- that is not understood
  abbrev pub IsNoHistory : Counted R → Counted R → Fault → Type 0
  IsNoHistory r r' (Refused refusal.OutOfMemory) = NoneFailed r r'
  IsNoHistory r r' (Read place) = (place ≡ 1) × Rose (failures_of r) (failures_of r')
  IsNoHistory r r' (BadLine place n) = NoneFailed r r' × (place ≡ 1) × IsSaidBy r (Err n)
  IsNoHistory r r' _ = ⊥

  -- these are the texts of the listing that a history has at a time, or at its end
  abbrev pub ReadsListingAt : Option ℕ → Counted R → Counted R → Result ListingTexts Fault → Type 0
  ReadsListingAt time r r' (Ok texts) =
      (parts : List HistoryPart) × IsHistoryRead r r' parts
      × (texts_in texts ≡ symbols_alone (listing_at time parts))
  ReadsListingAt time r r' (Err fault) = IsNoHistory r r' fault

  -- What an engine returns that reads a history: why there is none, and the writer is as it was;
  -- or this of the parts of the history.
  abbrev pub AnswersHistory : {A W : Type 0} → (List HistoryPart → Result A Fault → Type 0)
      → Counted R → Counted R → Output W → Output W → Result A Fault → Type 0
  AnswersHistory Answers r r' w w' result =
      (IsErrAnd result (IsNoHistory r r') × (w' ≡ w))
      ⊎ ((parts : List HistoryPart) × IsHistoryRead r r' parts × Answers parts result)
