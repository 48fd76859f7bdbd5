-- What an engine returns that reads listings, and then writes a text about them.
use Rattle.std.specs.Prelude.{◌≡◌, ℕ, List, Option, Result, Ok, Err, IfSome, true, false}
use Rattle.texts.specs.declared.output.Output.{Output}
use Rattle.texts.specs.Output.{Delivered, WrotePart, has_failed}
use Rattle.order_laws.specs.declared.refusals.Refusal.TheVariants as refusal
use Rattle.command_parts.specs.OpenedCatalogs.{HasBadRegion, HasCrowdedRegions}
use Rattle.listing.specs.Opening.{Given}
use Rattle.command_parts.specs.Readings.{Failures, NoReaderFailed, OnlyFailed}
use Rattle.command_parts.specs.declared.fault.Fault.{Fault}
use Rattle.command_parts.specs.declared.fault.Fault.TheVariants.{Refused, BadLine, Read, Write}

-- a text that goes with this value was written, as far as this says
abbrev pub IsTextWritten : {V : Type 0} → (List ℕ → Type 0) → (List ℕ → V → Type 0) → V → Type 0
IsTextWritten Wrote Is v = (text : List ℕ) × Is text v × Wrote text

-- What is returned for listings that were read, from one state of the writer to another; `Is` says
-- which text goes with which value. Every fault but a failed write leaves the writer as it was, and
-- only then a call of it failed.
abbrev pub AnswersGiven : {V W : Type 0} → (W → Option (List ℕ)) → (Given → List ℕ → V → Type 0)
    → Given → Output W → Output W → Result V Fault → Type 0
AnswersGiven contents Is g w w' (Ok v) = IsTextWritten (Delivered contents w w') (Is g) v
AnswersGiven contents Is g w w' (Err (Refused refusal.OutOfMemory)) = w' ≡ w
AnswersGiven contents Is g w w' (Err (Refused refusal.TooManyRegions)) =
    (w' ≡ w) × HasCrowdedRegions g
AnswersGiven contents Is g w w' (Err (BadLine place n)) =
    (w' ≡ w) × (place ≡ 2) × HasBadRegion n g
AnswersGiven {V} contents Is g w w' (Err Write) =
    (v : V) × IsTextWritten (WrotePart contents w w') (Is g) v
AnswersGiven contents Is g w w' (Err _) = ⊥

-- What the engine returns that also read the listings, if these are known. A call of a reader or
-- of the writer failed if the answer says so, and else none.
abbrev pub AnswersListings : {V W : Type 0} → (W → Option (List ℕ))
    → (Given → List ℕ → V → Type 0) → Option Given → Failures → Output W → Output W
    → Result V Fault → Type 0
AnswersListings contents Is known counts w w' (Ok v) =
    NoReaderFailed counts × (has_failed w' ≡ false)
    × IfSome known (λ g. IsTextWritten (Delivered contents w w') (Is g) v)
AnswersListings contents Is known counts w w' (Err (Refused refusal.OutOfMemory)) =
    NoReaderFailed counts × (w' ≡ w)
AnswersListings contents Is known counts w w' (Err (Refused refusal.TooManyRegions)) =
    NoReaderFailed counts × (w' ≡ w) × IfSome known HasCrowdedRegions
AnswersListings contents Is known counts w w' (Err (BadLine place n)) =
    NoReaderFailed counts × (w' ≡ w) × (place ≡ 2)
    × IfSome known (HasBadRegion n)
AnswersListings contents Is known counts w w' (Err (Read place)) =
    (w' ≡ w) × OnlyFailed place counts
AnswersListings {V} contents Is known counts w w' (Err Write) =
    NoReaderFailed counts × (has_failed w' ≡ true)
    × IfSome known (λ g. (v : V) × IsTextWritten (WrotePart contents w w') (Is g) v)
AnswersListings contents Is known counts w w' (Err _) = ⊥
