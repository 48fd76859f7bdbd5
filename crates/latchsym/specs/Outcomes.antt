-- The outcome of a job: its engine's over the job's own readers.
use Rattle.std.specs.Prelude.{◌≡◌, ℕ, List, map, Option, Some, None, Result, Err}
use Rattle.std.specs.Prelude.{unwrap_or}
use Rattle.texts.specs.Counted.{device_of, failures_of}
use Rattle.texts.specs.declared.counted.Counted.{Counted}
use Rattle.texts.specs.declared.output.Output.{Output}
use Rattle.command_listings.specs.Addresses.{IsAddressed}
use Rattle.command_listings.specs.Annotations.{AnnotatesLog}
use Rattle.command_listings.specs.Checks.{IsChecked}
use Rattle.command_listings.specs.Following.{FollowsLog}
use Rattle.command_listings.specs.LastingLogs.{Seen}
use Rattle.command_listings.specs.HistoryAnnotations.{AnnotatesByHistory}
use Rattle.command_listings.specs.HistoryOffsets.{WritesByHistoryOffset}
use Rattle.command_listings.specs.OwnOffsets.{WritesByOwnOffset, all_failures}
use Rattle.latchsym.specs.Files.{FileTexts, given_by}
use Rattle.latchsym.specs.RecordedEvents.{seen_again}
use Rattle.recordings.specs.Recorder.{RecordsEvents}
use Rattle.command_listings.specs.GivenAnswers.{AnswersGiven, AnswersListings}
use Rattle.command_parts.specs.Faults.{with_notes, with_status, without_notes}
use Rattle.listing.specs.ListingNotes.{no_notes}
use Rattle.listing.specs.declared.listing_notes.ListingNotes.{ListingNotes}
use Rattle.command_parts.specs.HistoryFiles.{AnswersHistory, symbols_alone}
use Rattle.command_parts.specs.OpenedCatalogs.{known_given, listing_failures}
use Rattle.command_parts.specs.Readings.{failures_in, known_text, last_failures}
use Rattle.command_tables.specs.Inputs.{failures_behind, inputs_of, known_inputs}
use Rattle.command_tables.specs.Lookups.{AnswersLookup, addresses_known}
use Rattle.command_tables.specs.Runs.{AnswersRun, script_known}
use Rattle.command_traces.specs.StepTraces.{AnswersSteps}
use Rattle.command_traces.specs.Traces.{AnswersTrace}
use Rattle.histories.specs.Grammar.{HistoryPart}
use Rattle.histories.specs.ListingsAt.{listing_at}
use Rattle.listing.specs.Opening.{Given}
use Rattle.modules.specs.Lines.{usual_bounds}
use Rattle.modules.specs.Listed.{BoundNames}
use Rattle.command_parts.specs.declared.fault.Fault.{Fault}
use Rattle.command_parts.specs.declared.fault.Fault.TheVariants.{Read}
use Rattle.command_parts.specs.declared.fault.Finished.{Finished}
use Rattle.command_parts.specs.declared.opened_catalogs.ListingReaders.{ListingReaders}
use Rattle.command_tables.specs.LookupTexts.{Query}
use Rattle.latchsym.specs.declared.jobs.OpenedJob.{OpenedJob}
use Rattle.latchsym.specs.declared.jobs.OpenedJob.TheVariants.{Request, Trace, Steps}
use Rattle.command_listings.specs.declared.annotations.Annotate.{Annotate}
use Rattle.command_listings.specs.declared.annotations.LogReading.{LogReading}
use Rattle.command_listings.specs.declared.annotations.LogReading.TheVariants.{Blocks, Followed}
use Rattle.command_listings.specs.declared.annotations.LogReading.TheVariants.{Whole}
use Rattle.command_listings.specs.declared.sources.Sources.{Sources}
use Rattle.command_listings.specs.declared.sources.SymbolSource.{SymbolSource}
use Rattle.command_listings.specs.declared.sources.SymbolSource.TheVariants.{History, Listing}
use Rattle.command_line.specs.declared.requests.Lookup.{Lookup}
use Rattle.command_line.specs.declared.requests.Record.{Record}
use Rattle.command_line.specs.declared.requests.Subcommand.{Subcommand}
use Rattle.command_line.specs.declared.requests.Subcommand.TheVariants as sub

-- the names of the kernel's bounds in a run
abbrev pub bounds_of : Sources → BoundNames
bounds_of s = unwrap_or s.kernel usual_bounds

-- an engine returned what it may, and the outcome is this of it
abbrev pub ComesTo : {A : Type 0} → (Result A Fault → Type 0)
    → (Result A Fault → Result Finished Fault) → Result Finished Fault → Type 0
ComesTo {A} May finish outcome = (result : Result A Fault) × May result × (outcome ≡ finish result)

-- This holds of the reader of a request's own file, before and after. If it has none, the file
-- is one that cannot be read.
abbrev pub HoldsOfInput : {R : Type 0} → (Counted R → Counted R → Type 0) → Option (Counted R)
    → Option (Counted R) → Result Finished Fault → Type 0
HoldsOfInput P (Some r) (Some r') outcome = P r r'
HoldsOfInput P None None outcome = outcome ≡ Err (Read 3)
HoldsOfInput P _ _ outcome = ⊥

module _ {R W : Type 0} (remaining : R → Option (List ℕ)) (contents : W → Option (List ℕ)) where
  -- addresses are looked up in the listings, or in the one that a history has at a time, also the
  -- addresses of a file, if there is one
  abbrev pub IsLookedUpBy : Query → SymbolSource → ListingReaders R R R → ListingReaders R R R
      → Option (Counted R) → Option (Counted R) → Output W → Output W
      → Result ListingNotes Fault → Type 0
  IsLookedUpBy query Listing l l' i i' w w' result =
      AnswersLookup contents query
      (known_inputs (addresses_known query (known_text remaining i))
      (known_given remaining remaining remaining l))
      (failures_behind (listing_failures l l') (failures_in i) (failures_in i')) w w' result
  IsLookedUpBy query (History time) l l' i i' w w' result =
      AnswersHistory remaining
      (λ parts. AnswersLookup contents query
      (inputs_of (addresses_known query (known_text remaining i))
      (symbols_alone (listing_at time parts)))
      (last_failures (failures_in i) (failures_in i')) w w')
      l.kallsyms l'.kallsyms w w' result

  -- What is returned over the listings of a request, or over the one that its history has at a
  -- time. `Is` says which text goes with which value, by the parts of the history if there is one.
  abbrev pub AnswersSources : {V : Type 0}
      → (Option (List HistoryPart) → Given → List ℕ → V → Type 0) → SymbolSource
      → ListingReaders R R R → ListingReaders R R R → Output W → Output W → Result V Fault → Type 0
  AnswersSources Is Listing l l' w w' result =
      AnswersListings contents (Is None) (known_given remaining remaining remaining l)
      (listing_failures l l') w w' result
  AnswersSources Is (History time) l l' w w' result =
      AnswersHistory remaining
      (λ parts.
      AnswersGiven contents (Is (Some parts)) (symbols_alone (listing_at time parts)) w w')
      l.kallsyms l'.kallsyms w w' result

  -- a script is run by a number of readers
  abbrev pub IsOutcomeOfRun : Sources → ℕ → ListingReaders R R R → ListingReaders R R R
      → Option (Counted R) → Option (Counted R) → Output W → Output W
      → Result Finished Fault → Type 0
  IsOutcomeOfRun s readers l l' i i' w w' outcome =
      HoldsOfInput (λ r r'. AnswersRun contents (bounds_of s) readers
      (known_inputs (script_known readers (remaining (device_of r)))
      (known_given remaining remaining remaining l))
      (failures_behind (listing_failures l l') (failures_of r) (failures_of r')) w w' outcome)
      i i' outcome

-- What is known of a log before it is followed: what it has, what the listings give that are open,
-- and what their files hold, which are opened again. In which order all of it is read is not.
abbrev pub seen_first : {R : Type 0} → (R → Option (List ℕ)) → FileTexts → Sources
    → ListingReaders R R R → Counted R → Seen
seen_first remaining file_text s l r = record {
  events = None;
  left = remaining (device_of r);
  next = known_given remaining remaining remaining l;
  later = given_by file_text s.files;
}

-- Events are recorded, by the listing that is read after them.
abbrev pub IsRecordedBy : {R W : Type 0} → (R → Option (List ℕ)) → FileTexts → (W → Option (List ℕ))
    → Sources → Record → Counted R → Output W → Output W → Result Finished Fault → Type 0
IsRecordedBy remaining file_text contents s r events w w' outcome =
    (after : Seen) × RecordsEvents contents r.is_appended
    (seen_again remaining file_text s.files events) after w w' outcome

-- how addresses are looked up that are asked for over these listings
abbrev pub query_of : Sources → Lookup → Query
query_of s l =
    record { kernel = s.kernel; rule = l.rule; form = l.form; addresses = l.addresses.items }

module _ {R W E : Type 0} (remaining : R → Option (List ℕ)) (file_text : FileTexts)
    (contents : W → Option (List ℕ)) (errors : E → Option (List ℕ)) (w w' : Output W)
    (e e' : Output E) where
  module _ (s : Sources) (a : Annotate) where
    -- A log is annotated by the listings as they are at its beginning, or followed, or read as a
    -- whole for the offset that it says; or by a history, each line by the listing at its time, or
    -- at the one that is given.
    abbrev pub IsLogOf : SymbolSource → LogReading → ListingReaders R R R → ListingReaders R R R
        → Counted R → Counted R → Result ℕ Fault → Type 0
    IsLogOf Listing Blocks l l' r r' result =
        AnnotatesLog remaining contents errors s a (known_given remaining remaining remaining l)
        (listing_failures l l') r r' w w' e e' result
    IsLogOf Listing Followed l l' r r' result =
        (after : Seen)
        × FollowsLog contents errors s a (seen_first remaining file_text s l r) after w w' e
        e' result
    IsLogOf Listing Whole l l' r r' result =
        WritesByOwnOffset contents errors s a w w' e
        e' (known_given remaining remaining remaining l)
        (remaining (device_of r)) (all_failures (listing_failures l l') r r') result
    IsLogOf (History time) Whole l l' r r' result =
        WritesByHistoryOffset contents errors s a w w' e e' remaining remaining time l.kallsyms
        l'.kallsyms r r' result
    IsLogOf (History time) _ l l' r r' result =
        AnnotatesByHistory remaining contents errors s a r r' w w' e e' time remaining l.kallsyms
        l'.kallsyms result

    abbrev pub IsOutcomeOfLog : ListingReaders R R R → ListingReaders R R R → Option (Counted R)
        → Option (Counted R) → Result Finished Fault → Type 0
    IsOutcomeOfLog l l' i i' outcome =
        HoldsOfInput
        (λ r r'. ComesTo (IsLogOf s.symbols a.reading l l' r r') (with_notes no_notes) outcome)
        i i' outcome

  -- What is asked for over listings comes to this. A lookup that succeeds has status 0; of a log or
  -- of listings that are checked nothing is left to be noted. Only an annotation says something
  -- while it is done.
  abbrev pub IsOutcomeBy : Sources → Subcommand → ListingReaders R R R → ListingReaders R R R
      → Option (Counted R) → Option (Counted R) → Result Finished Fault → Type 0
  IsOutcomeBy s (sub.Lookup lookup) l l' i i' outcome =
      ComesTo (IsLookedUpBy remaining contents (query_of s lookup) s.symbols l l' i i' w w')
      with_status outcome × (e' ≡ e)
  IsOutcomeBy s (sub.Run run) l l' i i' outcome =
      IsOutcomeOfRun remaining contents s run.readers l l' i i' w w' outcome × (e' ≡ e)
  IsOutcomeBy s (sub.Annotate a) l l' i i' outcome =
      IsOutcomeOfLog s a l l' i i' outcome
  IsOutcomeBy s sub.Check l l' i i' outcome =
      ComesTo (AnswersSources remaining contents (IsChecked s.kernel s.files) s.symbols l l' w w')
      (with_notes no_notes) outcome × (e' ≡ e)
  IsOutcomeBy s (sub.Address a) l l' i i' outcome =
      AnswersSources remaining contents
      (λ _. IsAddressed a.form s.kernel (map (λ n. n.now) a.names.items)) s.symbols l l' w w'
      outcome × (e' ≡ e)
  IsOutcomeBy s (sub.Record r) l l' i i' outcome =
      HoldsOfInput
      (λ events events'. IsRecordedBy remaining file_text contents s r events w w' outcome)
      i i' outcome × (e' ≡ e)

  -- The status or the fault of a job, over what its readers had. A trace that succeeds has status
  -- 0.
  abbrev pub IsOutcome : OpenedJob R → OpenedJob R → Result Finished Fault → Type 0
  IsOutcome (Trace r) (Trace r') outcome =
      ComesTo (AnswersTrace remaining contents r r' w w') (λ x. with_status (without_notes x))
      outcome
      × (e' ≡ e)
  IsOutcome (Steps r) (Steps r') outcome =
      ComesTo (AnswersSteps remaining contents r r' w w') (λ x. with_status (without_notes x))
      outcome
      × (e' ≡ e)
  IsOutcome (Request q l i) (Request _ l' i') outcome =
      IsOutcomeBy q.now.sources q.now.subcommand l l' i i' outcome
  IsOutcome _ _ outcome = ⊥
