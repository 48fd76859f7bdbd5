-- From what came of a log by the catalog of listings to what the engine returns.
use Rattle.command_listings.specs.declared.log_notes.ListedKernel.{ListedKernel}
use Rattle.command_listings.specs.declared.annotations.Stop.{Stop}
use Rattle.command_listings.specs.declared.annotations.Stop.TheVariants as stop
use Rattle.command_listings.specs.LogNotes.{note_of_log}
use Rattle.logs.specs.declared.log_names.LogNames.{LogNames}
use Rattle.std.proofs.Common.{None}
use Rattle.command_listings.proofs.Words.{listed_kernel, ◌≡◌, ℕ, List, [], Option, Some, Result, Ok}
use Rattle.command_listings.proofs.Words.{Err, refl, inl, inr, ⊎_elim, IfSome, Counted, Output}
use Rattle.command_listings.proofs.Words.{answered_by, AnnotatesBy, AnnotatesLog, IsTold, AreReadAs}
use Rattle.command_listings.proofs.Words.{Given, HasBadRegion, HasCrowdedRegions, IsCatalogOf}
use Rattle.command_listings.proofs.Words.{OpensCatalog, Failures, NoReaderFailed, Fault, Refused}
use Rattle.command_listings.proofs.Words.{BadLine, Read, TooLong, Write, ListingTexts, Annotate}
use Rattle.command_listings.proofs.Words.{Sources, is_narrow, lines_of, Findings, LogFault}
use Rattle.command_listings.proofs.Words.{IsEndTold, stopped}
use Rattle.logs.specs.declared.annotation.LogFault.TheVariants as log_fault
use Rattle.order_laws.specs.declared.refusals.Refusal.TheVariants as refusal
use Rattle.command_listings.proofs.GivenLemmas.{known_too}

module _ {L W E : Type 0} (remaining : L → Option (List ℕ)) (contents : W → Option (List ℕ))
    (errors : E → Option (List ℕ)) (q : Sources) (a : Annotate) where
  -- the catalog could not be opened
  pub not_opened : (g : Given) (l : Counted L) (w : Output W) (e : Output E) (f : Fault)
      → OpensCatalog q.kernel g (Err f)
      → AnnotatesLog remaining contents errors q a (Some g) [] l l w w e e (Err f)
  not_opened g l w e (Refused refusal.OutOfMemory) h = (tt, inl (refl, refl, refl))
  not_opened g l w e (Refused refusal.TooManyRegions) h = (tt, (refl, refl, refl), h)
  not_opened g l w e (BadLine place n) h = (tt, (refl, refl, refl), h.0, h.1)
  not_opened g l w e _ h = absurd h

  -- the listings could not be read
  pub not_read : (known : Option Given) (counts : Failures) (l : Counted L) (w : Output W)
      (e : Output E) (f : Fault) → AreReadAs {A = ListingTexts} counts (Err f)
      → AnnotatesLog remaining contents errors q a known counts l l w w e e (Err f)
  not_read known counts l w e (Refused refusal.OutOfMemory) h = (h, inl (refl, refl, refl))
  not_read known counts l w e (Read place) h = inl (h, (refl, refl, refl))
  not_read known counts l w e _ h = absurd h

  -- a fault that a log can end by
  abbrev IsOfLog : Result ℕ Fault → Type 0
  IsOfLog (Ok status) = Unit {0}
  IsOfLog (Err (Refused refusal.OutOfMemory)) = Unit {0}
  IsOfLog (Err (Read place)) = Unit {0}
  IsOfLog (Err (TooLong place)) = Unit {0}
  IsOfLog (Err Write) = Unit {0}
  IsOfLog (Err _) = ⊥

  of_log : (listed : ListedKernel) (e e' : Output E) (end : Result Findings LogFault)
      (result : Result ℕ Fault) → IsEndTold errors a.log.now listed e e' (stopped end) result
      → IsOfLog result
  of_log listed e e' (Ok found) result told = rw told.0 tt
  of_log listed e e' (Err log_fault.Closed) result told = rw told.0 tt
  of_log listed e e' (Err log_fault.OutOfMemory) result told = rw told.0 tt
  of_log listed e e' (Err log_fault.Read) result told = rw told.0 tt
  of_log listed e e' (Err log_fault.Write) result told = rw told.0 tt
  of_log listed e e' (Err log_fault.TooLong) result told = rw told.0 tt

  module _ (l l' : Counted L) (w w' : Output W) (e e' : Output E) where
    abbrev Told : Option Given → Result ℕ Fault → Type 0
    Told known r = IsTold errors q.kernel q.files a.rule.offset known e
        (λ c narrow listed noted. AnnotatesBy remaining contents errors a.log.now listed
        (answered_by c a.rule narrow) l l' w w' noted e' r)

    -- the notes were told, and this came of the log
    pub log_annotated : (known : Option Given) (result : Result ℕ Fault) → Told known result
        → AnnotatesLog remaining contents errors q a known [] l l' w w' e e' result
    log_annotated known (Ok done) t = (tt, t)
    log_annotated known (Err (Refused refusal.OutOfMemory)) t = (tt, inr t)
    log_annotated known (Err (Read place)) t = inr (tt, t)
    log_annotated known (Err (TooLong place)) t = (tt, t)
    log_annotated known (Err Write) t = (tt, t)
    log_annotated known (Err f) t = absurd (of_log t.listed t.noted e' t.holds.0 (Err f) t.holds.2)

    -- the same where the texts come from readers that did not fail
    module _ (g : Given) (known : Option Given) (is : IfSome known (λ k. g ≡ k)) (counts : Failures)
        (none : NoReaderFailed counts) where
      told_of : (r : Result ℕ Fault) → Told (Some g) r → Told known r
      told_of r t = record {
        catalog = t.catalog;
        narrow = t.narrow;
        listed = t.listed;
        notes = t.notes;
        noted = t.noted;
        sized = known_too (λ x. t.narrow ≡ is_narrow (lines_of x.kallsyms)) g known is t.sized;
        lies = known_too (λ x. t.listed ≡ listed_kernel x.kallsyms a.rule.offset) g known is t.lies;
        said = known_too (λ x. IsCatalogOf q.kernel x t.catalog t.notes) g known is t.said;
        told = t.told;
        holds = t.holds;
      }

      pub readers_known : (result : Result ℕ Fault)
          → AnnotatesLog remaining contents errors q a (Some g) [] l l' w w' e e' result
          → AnnotatesLog remaining contents errors q a known counts l l' w w' e e' result
      readers_known (Ok done) h = (none, told_of (Ok done) h.1)
      readers_known (Err (Refused refusal.OutOfMemory)) h =
          (none, ⊎_elim inl (λ t. inr (told_of (Err (Refused refusal.OutOfMemory)) t)) h.1)
      readers_known (Err (Refused refusal.TooManyRegions)) h =
          (none, h.1, known_too HasCrowdedRegions g known is h.2)
      readers_known (Err (BadLine place n)) h =
          (none, h.1, h.2, known_too (HasBadRegion n) g known is h.3)
      readers_known (Err (Read place)) h =
          inr (⊎_elim (λ f. absurd f.0) (λ t. (none, told_of (Err (Read place)) t.1)) h)
      readers_known (Err (TooLong place)) h = (none, told_of (Err (TooLong place)) h.1)
      readers_known (Err Write) h = (none, told_of (Err Write) h.1)
      readers_known (Err _) h = absurd h

-- a log that does not say where its kernel lay is noted by any listing's
pub unsaid : (head : List ℕ) (names : LogNames) (k k' : ListedKernel) → names.kernel.offset ≡ None
    → note_of_log head names k ≡ note_of_log head names k'
unsaid head names k k' none = rw none refl

-- what is told by one place of the kernel is told by another one, if the same is noted
pub told_by : {E : Type 0} (errors : E → Option (List ℕ)) (log : List ℕ) (k k' : ListedKernel)
    (e e' : Output E) (end : Result Findings Stop) (result : Result ℕ Fault)
    → ((found : Findings) → end ≡ Ok found → (head : List ℕ)
    → note_of_log head found.names k ≡ note_of_log head found.names k')
    → IsEndTold errors log k e e' end result → IsEndTold errors log k' e e' end result
told_by errors log k k' e e' (Ok found) result same told =
    (told.0, rw (same found refl found.head.items) at told.1)
told_by errors log k k' e e' (Err stop.Closed) result same told = told
told_by errors log k k' e e' (Err (stop.Failed f)) result same told = told
