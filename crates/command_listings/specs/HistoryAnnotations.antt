-- What is written for a log by a history, and noted of both.
use Rattle.std.specs.Prelude.{◌≡◌, ◌⊎◌, ℕ, List, [], Option, Some, None, Result, Ok, Err, IsErrAnd}
use Rattle.texts.specs.declared.counted.Counted.{Counted}
use Rattle.texts.specs.declared.output.Output.{Output}
use Rattle.modules.specs.Entries.{CatalogEntries}
use Rattle.order_laws.specs.declared.refusals.Refusal.TheVariants as refusal
use Rattle.listing.specs.ListingNotes.{is_some_noted}
use Rattle.listing.specs.declared.listing_notes.ListingNotes.{ListingNotes}
use Rattle.logs.specs.declared.annotation.LogFault.{LogFault}
use Rattle.logs.specs.declared.log_names.LogNames.{LogNames}
use Rattle.command_listings.specs.declared.line_runs.LogTimes.{LogTimes}
use Rattle.histories.specs.Grammar.{HistoryPart}
use Rattle.histories.specs.ListingsAt.{listing_at}
use Rattle.command_parts.specs.HistoryFiles.{IsHistoryRead, IsNoHistory, symbols_alone}
use Rattle.command_parts.specs.OpenedCatalogs.{IsCatalogOf}
use Rattle.command_parts.specs.declared.fault.Fault.{Fault}
use Rattle.command_parts.specs.declared.fault.Fault.TheVariants.{Refused}
use Rattle.command_listings.specs.Annotations.{AnnotatesLog, IsEndTold, IsUntouched, listed_kernel}
use Rattle.command_listings.specs.Annotations.{stop_of}
use Rattle.command_listings.specs.LogNotes.{IsLogNoted, note_of_timed_log}
use Rattle.command_listings.specs.NoteTexts.{IsNoted, note_lines}
use Rattle.command_listings.specs.TimedLogs.{IsTimed, first_listing}
use Rattle.command_listings.specs.declared.annotations.Annotate.{Annotate}
use Rattle.command_listings.specs.declared.annotations.Stop.TheVariants as stop
use Rattle.command_listings.specs.declared.log_notes.ListedKernel.{ListedKernel}
use Rattle.command_listings.specs.declared.sources.Sources.{Sources}
use Rattle.command_listings.specs.declared.timed_logs.TimedEnd.{TimedEnd}

-- What is said at the end of a log in this file, whose lines have times. The status 1 means that
-- the reader of the output is gone; then nothing is said.
abbrev pub IsTimedEndTold : {E : Type 0} → (E → Option (List ℕ)) → List ℕ → ListedKernel
    → Output E → Output E → Result TimedEnd LogFault → Result ℕ Fault → Type 0
IsTimedEndTold errors log kernel e e' (Ok end) result =
    (result ≡ Ok 0)
    × IsLogNoted errors e e' log
    (note_of_timed_log end.found.head.items end.times end.found.names kernel)
IsTimedEndTold errors log kernel e e' (Err fault) result =
    IsEndTold errors log kernel e e' (Err (stop_of fault)) result

-- what was found of a log with these first bytes, if it was named to its end; or why it was not
abbrev pub IsEndOf : Result (LogNames × LogTimes) LogFault → List ℕ → Result TimedEnd LogFault
    → Type 0
IsEndOf (Ok x) head (Ok end) =
    (end.found.names ≡ x.0) × (end.times ≡ x.1) × (end.found.head.items ≡ head)
IsEndOf (Err fault) head (Err f) = f ≡ fault
IsEndOf _ head _ = ⊥

module _ {L W E : Type 0} (remaining : L → Option (List ℕ)) (contents : W → Option (List ℕ))
    (errors : E → Option (List ℕ)) (q : Sources) (a : Annotate) (l l' : Counted L)
    (w w' : Output W) (e e' : Output E) where
  -- The notes on the first listing of a history with these parts were written, and then the log
  -- was annotated, each line by the listing at its time; and this is what is returned.
  pub record AnnotatesTimed (parts : List HistoryPart) (result : Result ℕ Fault) : Type 0 where
    pub catalog : CatalogEntries
    pub notes : ListingNotes
    pub noted : Output E
    pub end : Result TimedEnd LogFault
    pub said : IsCatalogOf q.kernel (symbols_alone (first_listing parts)) catalog notes
    pub told : IsNoted errors e noted (is_some_noted notes) (note_lines q.kernel q.files notes)
    pub timed : IsTimed q.kernel a.rule parts remaining contents l w end l' w'
    pub end_told : IsTimedEndTold errors a.log.now
        (listed_kernel (first_listing parts) a.rule.offset) noted e' end result

  -- so it is, unless memory ran out before
  abbrev pub AnnotatesBy : List HistoryPart → Result ℕ Fault → Type 0
  AnnotatesBy parts result =
      ((result ≡ Err (Refused refusal.OutOfMemory)) × IsUntouched l l' w w' e e')
      ⊎ AnnotatesTimed parts result

  -- The log was annotated by a history with these parts: each line by the listing at its time, or
  -- all lines by the listing at a time.
  abbrev pub AnnotatesAt : Option ℕ → List HistoryPart → Result ℕ Fault → Type 0
  AnnotatesAt None parts result = AnnotatesBy parts result
  AnnotatesAt (Some time) parts result =
      AnnotatesLog remaining contents errors q a
      (Some (symbols_alone (listing_at (Some time) parts))) [] l l' w w' e e' result

  -- What the engine returns: there is no history, and nothing else was touched; or the log was
  -- annotated by it.
  abbrev pub AnnotatesByHistory : {H : Type 0} → Option ℕ → (H → Option (List ℕ)) → Counted H
      → Counted H → Result ℕ Fault → Type 0
  AnnotatesByHistory time known h h' result =
      (IsErrAnd result (IsNoHistory known h h') × IsUntouched l l' w w' e e')
      ⊎ ((parts : List HistoryPart) × IsHistoryRead known h h' parts
      × AnnotatesAt time parts result)
