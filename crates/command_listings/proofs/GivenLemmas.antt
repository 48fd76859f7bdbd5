-- From what was written about listings to what the engine returns.
use Rattle.command_listings.proofs.Words.{◌≡◌, ℕ, List, Bool, true, false, cond, Option, Some, None}
use Rattle.command_listings.proofs.Words.{Result, Ok, Err, refl, sym, subst, IfSome, Output}
use Rattle.command_listings.proofs.Words.{Delivered, Delivers, WrotePart, has_failed, all_delivered}
use Rattle.command_listings.proofs.Words.{part_written, BoundNames, Given, HasBadRegion}
use Rattle.command_listings.proofs.Words.{HasCrowdedRegions, OpensCatalog, Failures, NoReaderFailed}
use Rattle.command_listings.proofs.Words.{Fault, Refused, BadLine, Write, AnswersGiven}
use Rattle.command_listings.proofs.Words.{AnswersListings, IsTextWritten, is_none, is_some, not}
use Rattle.std.specs.Option.{option_map}
use Rattle.order_laws.specs.declared.refusals.Refusal.TheVariants as refusal

-- what is missing is missing as well where it is mapped
pub missing_mapped : {A B : Type 0} (f : A → B) (o : Option A) (missing : Bool)
    → is_some o ≡ not missing → missing ≡ is_none (option_map f o)
missing_mapped f None true is = refl
missing_mapped f None false is = absurd (cc)
missing_mapped f (Some a) true is = absurd (cc)
missing_mapped f (Some a) false is = refl

-- what holds of listings that were read holds of them where they are known
pub known_too : {G : Type 0} (P : G → Type 0) (g : G) (known : Option G) → IfSome known (λ k. g ≡ k)
    → P g → IfSome known P
known_too P g None is p = tt
known_too P g (Some x) is p = rw is at p

module _ {V W : Type 0} (contents : W → Option (List ℕ)) (Is : Given → List ℕ → V → Type 0) where
  -- the catalog could not be opened
  pub not_opened : (kernel : Option BoundNames) (g : Given) (w : Output W) (f : Fault)
      → OpensCatalog kernel g (Err f) → AnswersGiven contents Is g w w (Err f)
  not_opened kernel g w (Refused refusal.OutOfMemory) h = refl
  not_opened kernel g w (Refused refusal.TooManyRegions) h = (refl, h)
  not_opened kernel g w (BadLine place n) h = (refl, h.0, h.1)
  not_opened kernel g w _ h = absurd h

  -- the text was said, and a call of the writer may have failed
  pub said_or_not : (g : Given) (w w' : Output W) (v : V) (text : List ℕ) → Is g text v
      → Delivers contents w w' text → (result : Result V Fault)
      → result ≡ cond (has_failed w') (Err Write) (Ok v)
      → AnswersGiven contents Is g w w' result
  said_or_not g w w' v text is delivers result e =
      subst (AnswersGiven contents Is g w w') (sym e) (by (has_failed w') refl)
    where
      by : (b : Bool) → has_failed w' ≡ b
          → AnswersGiven contents Is g w w' (cond b (Err Write) (Ok v))
      by true failed = (v, (text, is, part_written delivers.0 failed))
      by false sound = (text, is, all_delivered delivers sound)

  -- the texts come from readers that did not fail
  pub listings_known : (g : Given) (known : Option Given) → IfSome known (λ k. g ≡ k)
      → (counts : Failures) → NoReaderFailed counts → (w w' : Output W) (result : Result V Fault)
      → AnswersGiven contents Is g w w' result
      → AnswersListings contents Is known counts w w' result
  listings_known g known is counts none w w' (Ok v) h =
      (none, h.2.1, known_too (λ x. IsTextWritten (Delivered contents w w') (Is x) v) g known is h)
  listings_known g known is counts none w w' (Err (Refused refusal.OutOfMemory)) h = (none, h)
  listings_known g known is counts none w w' (Err (Refused refusal.TooManyRegions)) h =
      (none, h.0, known_too HasCrowdedRegions g known is h.1)
  listings_known g known is counts none w w' (Err (BadLine place n)) h =
      (none, h.0, h.1, known_too (HasBadRegion n) g known is h.2)
  listings_known g known is counts none w w' (Err Write) h = (
    none,
    h.1.2.0,
    known_too (λ x. (v : V) × IsTextWritten (WrotePart contents w w') (Is x) v) g known is h,
  )
  listings_known g known is counts none w w' (Err _) h = absurd h
