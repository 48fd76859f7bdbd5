-- What is written for a log, and noted of the listings that name its addresses.
use Rattle.std.specs.Prelude.{◌≡◌, ◌⊎◌, ℕ, Bool, List, Option, Result, Ok, Err, IfSome}
use Rattle.logs.specs.declared.annotation.LogFault.{LogFault}
use Rattle.logs.specs.declared.annotation.LogFault.TheVariants as log_fault
use Rattle.texts.specs.declared.counted.Counted.{Counted}
use Rattle.texts.specs.declared.output.Output.{Output}
use Rattle.logs.specs.Answering.{Answering}
use Rattle.logs.specs.Annotation.{Annotates}
use Rattle.modules.specs.Entries.{CatalogEntries}
use Rattle.modules.specs.Listed.{BoundNames}
use Rattle.order_laws.specs.declared.refusals.Refusal.TheVariants as refusal
use Rattle.command_listings.specs.NoteTexts.{IsNoted}
use Rattle.listing.specs.ListingNotes.{is_some_noted}
use Rattle.command_listings.specs.LogAnswers.{answered_by}
use Rattle.command_listings.specs.LogNotes.{IsLogNoted, note_of_log}
use Rattle.command_listings.specs.NoteTexts.{note_lines}
use Rattle.command_listings.specs.declared.log_notes.ListedKernel.{ListedKernel}
use Rattle.listing.specs.KernelLines.{kernel_base}
use Rattle.logs.specs.declared.annotation.Findings.{Findings}
use Rattle.command_parts.specs.OpenedCatalogs.{HasBadRegion, HasCrowdedRegions, IsCatalogOf}
use Rattle.listing.specs.Opening.{Given}
use Rattle.listing.specs.Looks.{is_narrow}
use Rattle.texts.specs.Lines.{lines_of}
use Rattle.command_parts.specs.Readings.{Failures, NoReaderFailed, OnlyFailed}
use Rattle.command_listings.specs.declared.sources.ListingFiles.{ListingFiles}
use Rattle.command_parts.specs.declared.fault.Fault.{Fault}
use Rattle.command_parts.specs.declared.fault.Fault.TheVariants.{Refused, BadLine, Read, TooLong}
use Rattle.command_parts.specs.declared.fault.Fault.TheVariants.{Write}
use Rattle.listing.specs.declared.listing_notes.ListingNotes.{ListingNotes}
use Rattle.command_listings.specs.declared.annotations.Stop.{Stop}
use Rattle.command_listings.specs.declared.annotations.Stop.TheVariants as stop
use Rattle.command_listings.specs.declared.annotations.Annotate.{Annotate}
use Rattle.command_listings.specs.declared.sources.Sources.{Sources}

-- Why a log is annotated no further, if there is this fault. The log is the file at place 3.
abbrev pub stop_of : LogFault → Stop
stop_of log_fault.Closed = stop.Closed
stop_of log_fault.OutOfMemory = stop.Failed (Refused refusal.OutOfMemory)
stop_of log_fault.Read = stop.Failed (Read 3)
stop_of log_fault.Write = stop.Failed Write
stop_of log_fault.TooLong = stop.Failed (TooLong 3)

abbrev pub stopped : {X : Type 0} → Result X LogFault → Result X Stop
stopped (Ok x) = Ok x
stopped (Err fault) = Err (stop_of fault)

-- What is said at the end of the log in this file: a note if the log is packed, or if the listing
-- is another one. The status 1 means that the reader of the output is gone; then nothing is said.
abbrev pub IsEndTold : {E : Type 0} → (E → Option (List ℕ)) → List ℕ → ListedKernel → Output E
    → Output E → Result Findings Stop → Result ℕ Fault → Type 0
IsEndTold errors log kernel e e' (Ok found) result =
    (result ≡ Ok 0)
    × IsLogNoted errors e e' log (note_of_log found.head.items found.names kernel)
IsEndTold errors log kernel e e' (Err stop.Closed) result = (result ≡ Ok 1) × (e' ≡ e)
IsEndTold errors log kernel e e' (Err (stop.Failed f)) result = (result ≡ Err f) × (e' ≡ e)

module _ {L W E : Type 0} (remaining : L → Option (List ℕ)) (contents : W → Option (List ℕ))
    (errors : E → Option (List ℕ)) (log : List ℕ) where
  -- the log in this file was annotated to its end or not, and this was said
  abbrev pub AnnotatesBy : ListedKernel → Answering → Counted L → Counted L → Output W → Output W
      → Output E → Output E → Result ℕ Fault → Type 0
  AnnotatesBy kernel answer l l' w w' e e' result =
      (end : Result Findings LogFault) × Annotates remaining contents answer l l' w w' end
      × IsEndTold errors log kernel e e' (stopped end) result

-- the place of the kernel by a listing of symbols with this text, for addresses that are looked up
-- this many bytes lower
abbrev pub listed_kernel : List ℕ → ℕ → ListedKernel
listed_kernel kallsyms offset = record { base = kernel_base (lines_of kallsyms); offset = offset }

-- There is a catalog of the listings, if these are known; their notes were written; and this holds
-- of the catalog, of whether the symbols are of a 32-bit kernel, of the place of its kernel, and of
-- the output for errors after the notes.
pub record IsTold {E : Type 0} (contents : E → Option (List ℕ)) (kernel : Option BoundNames)
    (files : ListingFiles) (offset : ℕ) (known : Option Given) (e : Output E)
    (P : CatalogEntries → Bool → ListedKernel → Output E → Type 0)
    : Type 0 where
  pub catalog : CatalogEntries
  pub narrow : Bool
  pub listed : ListedKernel
  pub notes : ListingNotes
  pub noted : Output E
  pub said : IfSome known (λ g. IsCatalogOf kernel g catalog notes)
  pub sized : IfSome known (λ g. narrow ≡ is_narrow (lines_of g.kallsyms))
  pub lies : IfSome known (λ g. listed ≡ listed_kernel g.kallsyms offset)
  pub told : IsNoted contents e noted (is_some_noted notes) (note_lines kernel files notes)
  pub holds : P catalog narrow listed noted

-- neither the log nor the writers were touched
abbrev pub IsUntouched : {L W E : Type 0} → Counted L → Counted L → Output W → Output W
    → Output E → Output E → Type 0
IsUntouched l l' w w' e e' = (l' ≡ l) × (w' ≡ w) × (e' ≡ e)

-- What is returned after listings were read, whose texts may be known: before anything else was
-- touched, or after the notes were written; then `Told` says what came of the log. A call of a
-- listing's reader failed if the answer says so, and else none.
abbrev pub AnnotatesAfter : Option Given → Failures → Type 0 → (Result ℕ Fault → Type 0)
    → Result ℕ Fault → Type 0
AnnotatesAfter known counts Untouched Told (Ok done) = NoReaderFailed counts × Told (Ok done)
AnnotatesAfter known counts Untouched Told (Err (Refused refusal.OutOfMemory)) =
    NoReaderFailed counts × (Untouched ⊎ Told (Err (Refused refusal.OutOfMemory)))
AnnotatesAfter known counts Untouched Told (Err (Refused refusal.TooManyRegions)) =
    NoReaderFailed counts × Untouched
    × IfSome known HasCrowdedRegions
AnnotatesAfter known counts Untouched Told (Err (BadLine place n)) =
    NoReaderFailed counts × Untouched × (place ≡ 2)
    × IfSome known (HasBadRegion n)
AnnotatesAfter known counts Untouched Told (Err (Read place)) =
    (OnlyFailed place counts × Untouched) ⊎ (NoReaderFailed counts × Told (Err (Read place)))
AnnotatesAfter known counts Untouched Told (Err (TooLong place)) =
    NoReaderFailed counts × Told (Err (TooLong place))
AnnotatesAfter known counts Untouched Told (Err Write) =
    NoReaderFailed counts × Told (Err Write)
AnnotatesAfter known counts Untouched Told (Err _) = ⊥

module _ {L W E : Type 0} (remaining : L → Option (List ℕ)) (contents : W → Option (List ℕ))
    (errors : E → Option (List ℕ)) (q : Sources) (a : Annotate) where
  -- What the engine returns. After the notes on the listings, the log is annotated by the answers
  -- of their catalog.
  abbrev pub AnnotatesLog : Option Given → Failures → Counted L → Counted L → Output W → Output W
      → Output E → Output E → Result ℕ Fault → Type 0
  AnnotatesLog known counts l l' w w' e e' result =
      AnnotatesAfter known counts (IsUntouched l l' w w' e e')
      (λ r. IsTold errors q.kernel q.files a.rule.offset known e
      (λ c narrow listed noted. AnnotatesBy remaining contents errors a.log.now listed
      (answered_by c a.rule narrow) l l' w w' noted e' r))
      result
