-- The same answer, where more is known of what was read: of the engines of lookups and of runs.
use Rattle.command_tables.proofs.Words.{◌≡◌, ℕ, zero, suc, Some, None, Result, Ok, Err, ap, arith}
use Rattle.command_tables.proofs.Words.{inl, option_map, refl, subst, sym, Rose, Output, Fault}
use Rattle.command_tables.proofs.Words.{BadLine, Read, Write, AreReadAs, GivesListings, Given}
use Rattle.command_tables.proofs.Words.{Listed, listings_of, AnswersInputs, Failures, HoldsOf}
use Rattle.command_tables.proofs.Words.{NoReaderFailed, OnlyFailed, last_failures, Inputs}
use Rattle.command_tables.proofs.Words.{failures_behind, inputs_after, inputs_of, inputs_with}
use Rattle.command_tables.proofs.Words.{known_inputs, listing_failures}
use Rattle.std.proofs.Common.{Option}
use Rattle.std.specs.Prelude.{IfSome}
use Rattle.order_laws.specs.declared.refusals.Refusal.TheVariants as refusal
use Rattle.command_parts.specs.declared.fault.Fault.TheVariants.{Refused}
use Rattle.command_parts.specs.declared.opened_catalogs.ListingReaders.{ListingReaders}
use Rattle.command_parts.specs.declared.opened_catalogs.ListingTexts.{ListingTexts}

no_rise : Rose 0 0 → ⊥
no_rise rose = grind (arith, rose)

-- the same answer, where more is known of the inputs and of which reader failed
module _ {I V W : Type 0} (Says : I → Result V Fault → Type 0)
    (inner known : Option (Result I (ℕ × ℕ)))
    (all : (P : Result I (ℕ × ℕ) → Type 0) → IfSome inner P → IfSome known P)
    (had counts : Failures) (none : NoReaderFailed had → NoReaderFailed counts)
    (only : (place : ℕ) → OnlyFailed place had → OnlyFailed place counts) (w w' : Output W) where
  pub still_answered : (result : Result V Fault) → AnswersInputs Says inner had w w' result
      → AnswersInputs Says known counts w w' result
  still_answered (Ok v) h = (none h.0, h.1, all (HoldsOf (λ i. Says i (Ok v))) h.2)
  still_answered (Err (Refused refusal.OutOfMemory)) h = (none h.0, h.1)
  still_answered (Err (Refused refusal.BadCapacity)) h =
      (none h.0, h.1, all (HoldsOf (λ i. Says i (Err (Refused refusal.BadCapacity)))) h.2)
  still_answered (Err (Refused refusal.TooManyRegions)) h =
      (none h.0, h.1, all (HoldsOf (λ i. Says i (Err (Refused refusal.TooManyRegions)))) h.2)
  still_answered (Err (BadLine place n)) h = (none h.0, h.1, h.2, all (λ i. i ≡ Err (place, n)) h.3)
  still_answered (Err (Read place)) h = (h.0, only place h.1)
  still_answered (Err Write) h = (none h.0, h.1, all (HoldsOf (λ i. Says i (Err Write))) h.2)
  still_answered (Err _) h = absurd h

-- what was returned after three readers that did not fail
module _ {I V W M K R : Type 0} (Says : I → Result V Fault → Type 0)
    (inner known : Option (Result I (ℕ × ℕ))) (all : (P : Result I (ℕ × ℕ) → Type 0)
    → IfSome inner P → IfSome known P) (old new : ListingReaders M K R)
    (read : NoReaderFailed (listing_failures old new)) (before after : ℕ) (w w' : Output W) where
  abbrev counts : Failures
  counts = failures_behind (listing_failures old new) before after

  none : NoReaderFailed (last_failures before after) → NoReaderFailed counts
  none h = (read.0, (read.1.0, (read.1.1.0, h.1.1.1)))

  only : (place : ℕ) → OnlyFailed place (last_failures before after) → OnlyFailed place counts
  only zero h = absurd (no_rise h.0)
  only (suc zero) h = absurd (no_rise h.1.0)
  only (suc (suc zero)) h = absurd (no_rise h.1.1.0)
  only (suc (suc (suc place))) h = (read.0, (read.1.0, (read.1.1.0, h.1.1.1)))

  pub answered_behind : (result : Result V Fault)
      → AnswersInputs Says inner (last_failures before after) w w' result
      → AnswersInputs Says known counts w w' result
  answered_behind result h = still_answered Says inner known all (last_failures before after) counts
      none only w w' result h

-- what is returned where the listings could not be read
module _ {I V W M K R : Type 0} (Says : I → Result V Fault → Type 0)
    (known : Option (Result I (ℕ × ℕ))) (old new : ListingReaders M K R) (n : ℕ)
    (w : Output W) where
  abbrev counts_behind : Failures
  counts_behind = failures_behind (listing_failures old new) n n

  only_one : (place : ℕ) → OnlyFailed place (listing_failures old new)
      → OnlyFailed place counts_behind
  only_one zero h = (h.0, (h.1.0, (h.1.1.0, (refl, tt))))
  only_one (suc zero) h = (h.0, (h.1.0, (h.1.1.0, (refl, tt))))
  only_one (suc (suc zero)) h = (h.0, (h.1.0, (h.1.1.0, (refl, tt))))
  only_one (suc (suc (suc place))) h = absurd h.1.1.1

  pub not_read : (f : Fault) → AreReadAs {A = ListingTexts} (listing_failures old new) (Err f)
      → AnswersInputs Says known counts_behind w w (Err f)
  not_read (Refused refusal.OutOfMemory) h = ((h.0, (h.1.0, (h.1.1.0, (refl, tt)))), refl)
  not_read (Read place) h = (refl, only_one place h)
  not_read _ h = absurd h

-- what is known of the text of a file is known of what it says
pub said_of : {A B : Type 0} (says : A → B) (file : Option A) (P : B → Type 0)
    → IfSome file (λ x. P (says x)) → IfSome (option_map says file) P
said_of says None P read = tt
said_of says (Some x) P read = read

-- what holds of the inputs that were read holds of those that are known
module _ {X : Type 0} (P : Result (Inputs X) (ℕ × ℕ) → Type 0) where
  said_known : (l : Listed) (r : Result X ℕ) (said : Option (Result X ℕ)) → IfSome said (λ s. s ≡ r)
      → P (inputs_with l r) → IfSome (inputs_after said (Ok l)) P
  said_known l r None is p = tt
  said_known l r (Some s) is p = subst (λ x. P (inputs_with l x)) (sym is) p

  pub listed_known : (g : Given) (l : Listed) → listings_of g ≡ Ok l
      → (r : Result X ℕ) (said : Option (Result X ℕ)) → IfSome said (λ s. s ≡ r)
      → P (inputs_with l r) → IfSome (inputs_of said g) P
  listed_known g l at r said is p =
      subst (λ x. IfSome (inputs_after said x) P) (sym at) (said_known l r said is p)

  pub given_known : (said : Option (Result X ℕ)) (g : Given) (known : Option Given)
      → IfSome known (λ k. g ≡ k) → IfSome (inputs_of said g) P → IfSome (known_inputs said known) P
  given_known said g None is p = tt
  given_known said g (Some k) is p = subst (λ x. IfSome (inputs_of said x) P) is p

-- the listings with these texts have a bad line, or there is no memory for them
module _ {X V W : Type 0} (Says : Inputs X → Result V Fault → Type 0) (said : Option (Result X ℕ))
    (g : Given) (n : ℕ) (w : Output W) where
  pub not_listed : (f : Fault) → GivesListings g (Err f)
      → AnswersInputs Says (inputs_of said g) (last_failures n n) w w (Err f)
  not_listed (Refused refusal.OutOfMemory) h = ((refl, (refl, (refl, (refl, tt)))), refl)
  not_listed (BadLine place line) h =
      let bad : IfSome (inputs_of said g) (λ i. i ≡ Err (place, line)) =
      subst (λ r. IfSome (inputs_after said r) (λ i. i ≡ Err (place, line))) (sym h.1)
      (ap (λ p. Err (p, line)) (sym h.0)) in
      ((refl, (refl, (refl, (refl, tt)))), refl, inl h.0, bad)
  not_listed _ h = absurd h
