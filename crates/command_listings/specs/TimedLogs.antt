-- A log whose lines are each named by the listing that a history has at its time.
use Rattle.std.specs.Prelude.{◌≡◌, ◌≤◌, ◌⊎◌, ℕ, ◌+◌, ◌-◌, ◌^◌, Bool, true, false, List, [], ◌++◌}
use Rattle.std.specs.Prelude.{length, take, Option, Result, Ok, Err}
use Rattle.std.specs.Option.{option_map_or}
use Rattle.std.specs.Io.KnownBytes.{Appends, Consumes, IsAtEnd, Keeps}
use Rattle.texts.specs.Counted.{NoneFailed, Rose, device_of, failures_of}
use Rattle.texts.specs.Lines.{lines_of}
use Rattle.texts.specs.Output.{contents_of, error_in, has_failed}
use Rattle.texts.specs.declared.counted.Counted.{Counted}
use Rattle.texts.specs.declared.output.Output.{Output}
use Rattle.modules.specs.Entries.{CatalogEntries}
use Rattle.modules.specs.Listed.{BoundNames}
use Rattle.listing.specs.Looks.{is_narrow}
use Rattle.listing.specs.declared.address_rules.LogRule.{LogRule}
use Rattle.listing.specs.declared.listing_notes.ListingNotes.{ListingNotes}
use Rattle.logs.specs.Annotation.{EndsLog, IsOpen, IsWriteFault, KeepsNothingBack, Passes, Puts}
use Rattle.logs.specs.Annotation.{context_in}
use Rattle.logs.specs.Annotation.{put_of}
use Rattle.logs.specs.AnnotatedLogs.{annotated_lines, first_context, context_over}
use Rattle.logs.specs.Answering.{Answering}
use Rattle.logs.specs.Lines.{AreWhole, has_end, lines}
use Rattle.logs.specs.declared.annotation.LogFault.{LogFault}
use Rattle.logs.specs.declared.annotation.LogFault.TheVariants as fault
use Rattle.logs.specs.declared.contexts.LogContext.{LogContext}
use Rattle.logs.specs.declared.log_names.LogNames.{LogNames}
use Rattle.histories.specs.Grammar.{HistoryPart}
use Rattle.histories.specs.ListingsAt.{first_count, listing_after}
use Rattle.command_parts.specs.HistoryFiles.{symbols_alone}
use Rattle.command_parts.specs.OpenedCatalogs.{IsCatalogOf}
use Rattle.command_listings.specs.LineRuns.{IsRun, IsRunAfter, ended_in, first_times, may_name}
use Rattle.command_listings.specs.LineRuns.{times_behind}
use Rattle.command_listings.specs.LogAnswers.{answered_by}
use Rattle.command_listings.specs.declared.line_runs.LogTimes.{LogTimes}
use Rattle.command_listings.specs.declared.timed_logs.Pending.{Pending}
use Rattle.command_listings.specs.declared.timed_logs.TimedEnd.{TimedEnd}
use Rattle.command_listings.specs.declared.timed_logs.TimedLines.{TimedLines}
use Rattle.command_listings.specs.declared.timed_logs.TimedLog.{TimedLog}
use Rattle.command_listings.specs.declared.timed_logs.Turn.{Turn}
use Rattle.command_listings.specs.declared.timed_logs.Turn.TheVariants as turn

-- the first listing of a history
abbrev pub first_listing : List HistoryPart → List ℕ
first_listing parts = listing_after (first_count parts) parts

-- a history is one of a 32-bit kernel, by its first listing
abbrev pub is_narrow_history : List HistoryPart → Bool
is_narrow_history parts = is_narrow (lines_of (first_listing parts))

-- How far a log was named: the times of its lines so far, what is carried on after them, and the
-- line after them that has no end yet.
pub record TimedPoint : Type 0 where
  pub times : LogTimes
  pub context : LogContext
  pub line : List ℕ

-- at the beginning of a log
abbrev pub first_point : TimedPoint
first_point = record { times = first_times; context = first_context; line = [] }

-- the bytes that a run leaves
abbrev pub left_of : Option Pending → List ℕ
left_of pending = option_map_or (λ p. p.left.items) pending []

module _ (kernel : Option BoundNames) (rule : LogRule) (parts : List HistoryPart) where
  abbrev pub narrow : Bool
  narrow = is_narrow_history parts

  -- these are the answers of the catalog of the listing after this many parts
  abbrev pub AreAnswersAfter : ℕ → Answering → Type 0
  AreAnswersAfter count answer =
      (count ≤ length parts)
      × ((c : CatalogEntries) × (notes : ListingNotes)
      × IsCatalogOf kernel (symbols_alone (listing_after count parts)) c notes
      × (answer ≡ answered_by c rule narrow))

  -- With these bytes the lines that have their end now were put, each annotated by these answers,
  -- and what is put of the line that is open after them. The listing of the answers, that after so
  -- many parts, may name each of them.
  pub record NamesRun (count : ℕ) (answer : Answering) (p p' : TimedPoint) (bytes text : List ℕ)
      : Type 0 where
    pub ended : List ℕ
    pub parts_are : p.line ++ bytes ≡ ended ++ p'.line
    pub whole : AreWhole ended
    pub no_end : has_end p'.line ≡ false
    pub run : IsRun parts narrow count p.times p'.times (ended_in (p.line ++ bytes))
    pub context : p'.context ≡ context_over answer p.context (lines ended)
    pub put : put_of p.line ++ text
        ≡ annotated_lines answer p.context (lines ended) ++ put_of p'.line

  -- This many runs, each named by one listing, took a log with these bytes to this point, and this
  -- text was put for them.
  pub data AreNamed : ℕ → TimedPoint → List ℕ → List ℕ → Type 0 where
    no_run : AreNamed 0 first_point [] []
    one_more : (n count : ℕ) (answer : Answering) (p p' : TimedPoint) (log bytes text more : List ℕ)
        → AreNamed n p log text → AreAnswersAfter count answer
        → NamesRun count answer p p' bytes more
        → AreNamed (n + 1) p' (log ++ bytes) (text ++ more)

  -- The line that is open at the end of the log was put, annotated by the answers of a listing that
  -- may name it; these are the names of the log, and the times after it.
  pub record NamesEnd (p : TimedPoint) (names : LogNames) (times : LogTimes) (text : List ℕ)
      : Type 0 where
    pub count : ℕ
    pub answer : Answering
    pub answers : AreAnswersAfter count answer
    pub named : may_name parts narrow count p.times p.line ≡ true
    pub times_are : times ≡ times_behind narrow p.times p.line
    pub names_are : names ≡ (context_over answer p.context (lines p.line)).names
    pub put : put_of p.line ++ text ≡ annotated_lines answer p.context (lines p.line)

  -- ---- what is read and written

  module _ {L W : Type 0} (remaining : L → Option (List ℕ)) (contents : W → Option (List ℕ))
      (l : Counted L) (w : Output W) where
    -- From the beginning of a log on, this many runs took it here: these lines were named and
    -- written,
    -- these bytes were read besides, and these are its first bytes.
    pub record IsNamedTo (n : ℕ) (lines : TimedLines) (left head : List ℕ) (l' : Counted L)
        (w' : Output W) : Type 0 where
      pub point : TimedPoint
      pub log : List ℕ
      pub text : List ℕ
      pub named : AreNamed n point log text
      pub is_open : IsOpen lines.annotator point.line
      pub context : point.context ≡ context_in lines.annotator
      pub times : point.times ≡ lines.times
      pub read : NoneFailed l l'
      pub consumed : Consumes (remaining (device_of l)) (remaining (device_of l')) (log ++ left)
      pub head_is : head ≡ take 2 (log ++ left)
      pub sound : has_failed w' ≡ has_failed w
      pub none_back : KeepsNothingBack w w'
      pub appended : Appends (contents_of contents w) (contents_of contents w') text

    -- so it is with a log that is kept
    abbrev pub IsTimedTo : ℕ → TimedLog → Counted L → Output W → Type 0
    IsTimedTo n s l' w' =
        IsNamedTo n s.lines s.left.items s.head.items l' w'
        × (s.is_ended ≡ true → IsAtEnd (remaining (device_of l')))

    -- The log was named to its end, and all of it is written. These are its names, what is known of
    -- its times, and its first bytes.
    pub record IsNamedWhole (names : LogNames) (times : LogTimes) (head : List ℕ) (l' : Counted L)
        (w' : Output W) : Type 0 where
      pub runs : ℕ
      pub point : TimedPoint
      pub log : List ℕ
      pub text : List ℕ
      pub last : List ℕ
      pub named : AreNamed runs point log text
      pub ended : NamesEnd point names times last
      pub read : NoneFailed l l'
      pub consumed : Consumes (remaining (device_of l)) (remaining (device_of l')) log
      pub at_end : IsAtEnd (remaining (device_of l'))
      pub head_is : head ≡ take 2 log
      pub sound : has_failed w' ≡ false
      pub none_back : KeepsNothingBack w w'
      pub appended : Appends (contents_of contents w) (contents_of contents w') (text ++ last)

    -- Some of the log was named by this many runs, and what was put for it was written, and nothing
    -- else; what else was read is not.
    abbrev pub IsUpTo : ℕ → Counted L → Output W → Type 0
    IsUpTo n l' w' =
        (point : TimedPoint) × (log : List ℕ) × (text : List ℕ) × (left : List ℕ)
        × AreNamed n point log text
        × Consumes (remaining (device_of l)) (remaining (device_of l')) (log ++ left)
        × (has_failed w' ≡ has_failed w) × KeepsNothingBack w w'
        × Appends (contents_of contents w) (contents_of contents w') text

    -- A text was put for some of the log; the last line may be one without an end.
    abbrev pub IsPut : List ℕ → List ℕ → Type 0
    IsPut log text =
        (n : ℕ) × (point : TimedPoint)
        × (AreNamed n point log text
        ⊎ ((first : List ℕ) × (last : List ℕ) × (names : LogNames) × (times : LogTimes)
        × AreNamed n point log first × NamesEnd point names times last × (text ≡ first ++ last)))

    -- A call of the writer failed, and what was written until then begins what is put for some of
    -- the log.
    abbrev pub IsCutOff : Counted L → Output W → Type 0
    IsCutOff l' w' =
        (has_failed w' ≡ true)
        × ((log : List ℕ) × (left : List ℕ) × (written : List ℕ) × (lost : List ℕ)
        × Consumes (remaining (device_of l)) (remaining (device_of l')) (log ++ left)
        × Appends (contents_of contents w) (contents_of contents w') written
        × IsPut log (written ++ lost))

    -- why a log is named no further
    abbrev pub IsStopped : LogFault → Counted L → Output W → Type 0
    IsStopped fault.OutOfMemory l' w' = NoneFailed l l' × ((n : ℕ) × IsUpTo n l' w')
    IsStopped fault.Read l' w' =
        Rose (failures_of l) (failures_of l') × ((n : ℕ) × IsUpTo n l' w')
    IsStopped fault.TooLong l' w' =
        NoneFailed l l' × ((n : ℕ) × (2 ^ 64 - 1 ≤ n) × IsUpTo n l' w')
    IsStopped fault l' w' = NoneFailed l l' × IsCutOff l' w' × IsWriteFault (error_in w') fault

    -- what is returned
    abbrev pub IsTimed : Result TimedEnd LogFault → Counted L → Output W → Type 0
    IsTimed (Ok end) l' w' = IsNamedWhole end.found.names end.times end.found.head.items l' w'
    IsTimed (Err fault) l' w' = IsStopped fault l' w'

    -- the log was named to its end, or why it goes no further
    abbrev pub IsNamedOn : TimedLog → Result (LogNames × LogTimes) LogFault → Counted L → Output W
        → Type 0
    IsNamedOn s (Ok x) l' w' = IsNamedWhole x.0 x.1 s.head.items l' w'
    IsNamedOn s (Err fault) l' w' = IsStopped fault l' w'

    -- What is returned after lines that one listing names: the log is at its end, or another
    -- listing names the next line, after this many runs at least; or why it goes no further.
    abbrev pub IsTurn : ℕ → TimedLog → Result Turn LogFault → Counted L → Output W → Type 0
    IsTurn n s (Ok (turn.Ended names times)) l' w' = IsNamedWhole names times s.head.items l' w'
    IsTurn n s (Ok (turn.Other time)) l' w' = (m : ℕ) × (n ≤ m) × IsTimedTo m s l' w'
    IsTurn n s (Err fault) l' w' = IsStopped fault l' w'

-- One run was put of bytes by these answers, which are of the listing after this many parts, and
-- this was left.
abbrev pub PutsRun : List HistoryPart → ℕ → Answering → TimedLines → TimedLines → List ℕ
    → Option Pending → List ℕ → Type 0
PutsRun parts count answer s s' bytes pending text =
    (run : List ℕ) × (bytes ≡ run ++ left_of pending)
    × Passes answer s.annotator s'.annotator run text
    × IsRunAfter parts answer.is_narrow count s.annotator s.times s'.times run

module _ {L : Type 0} (remaining : L → Option (List ℕ)) (l l' : Counted L) (s s' : TimedLog) where
  -- only what was read is another
  abbrev pub HasLines : Type 0
  HasLines = (s'.lines ≡ s.lines) × (s'.left.items ≡ s.left.items)

  -- A block was read, with these bytes, none at the end of the log; or why not.
  abbrev pub ReadsOn : Result ℕ LogFault → Type 0
  ReadsOn (Ok count) =
      HasLines × NoneFailed l l'
      × Consumes (remaining (device_of l)) (remaining (device_of l')) (take count s'.room.items)
      × (count ≤ length s'.room.items)
      × ((log : List ℕ) → s.head.items ≡ take 2 log
      → s'.head.items ≡ take 2 (log ++ take count s'.room.items))
      × (count ≡ 0 → (s.is_ended ≡ true → IsAtEnd (remaining (device_of l)))
      → IsAtEnd (remaining (device_of l')))
      × (count ≡ 0 ⊎ (s'.is_ended ≡ false))
  ReadsOn (Err fault.Read) =
      Rose (failures_of l) (failures_of l')
      × Keeps (remaining (device_of l)) (remaining (device_of l'))
  ReadsOn (Err fault.OutOfMemory) =
      NoneFailed l l' × ((bytes : List ℕ)
      × Consumes (remaining (device_of l)) (remaining (device_of l')) bytes)
  ReadsOn (Err _) = ⊥

module _ {L W : Type 0} (remaining : L → Option (List ℕ)) (contents : W → Option (List ℕ))
    (runs : ℕ) (kernel : Option BoundNames) (rule : LogRule) (parts : List HistoryPart) where
  -- A log that was named in part is named on, by this many runs at least, up to a line that
  -- another listing names or to its end.
  abbrev pub TakesTurn : TimedLog → TimedLog → Counted L → Counted L → Output W → Output W
      → Result Turn LogFault → Type 0
  TakesTurn s s' l l' w w' result =
      (first : Counted L) (begun : Output W) (n : ℕ)
      → IsTimedTo kernel rule parts remaining contents first begun n s l w
      → IsTurn kernel rule parts remaining contents first begun (n + runs) s' result l' w'

-- The line that is open at the end of a log is put by these answers, whose listing may name it.
abbrev pub EndsBy : List HistoryPart → ℕ → Answering → TimedLines → LogNames → LogTimes → List ℕ
    → Type 0
EndsBy parts count answer s names times text =
    EndsLog answer s.annotator names text
    × ((line : List ℕ) → IsOpen s.annotator line
    → (may_name parts answer.is_narrow count s.times line ≡ true)
    × (times ≡ times_behind answer.is_narrow s.times line))

-- It was put, or another listing names it and nothing was done, or it was not written.
abbrev pub PutsLast : {W : Type 0} → (W → Option (List ℕ)) → List HistoryPart → ℕ → Answering
    → TimedLines → Output W → Output W → Result Turn LogFault → Type 0
PutsLast contents parts count answer s w w' (Ok (turn.Other time)) = w' ≡ w
PutsLast contents parts count answer s w w' (Ok (turn.Ended names times)) =
    Puts {X = Unit {0}} contents (λ _. EndsBy parts count answer s names times) w w' (Ok tt)
PutsLast contents parts count answer s w w' (Err fault) =
    Puts {X = LogNames × LogTimes} contents (λ x. EndsBy parts count answer s x.0 x.1) w w'
    (Err fault)

module _ {L W : Type 0} (remaining : L → Option (List ℕ)) (contents : W → Option (List ℕ))
    (kernel : Option BoundNames) (rule : LogRule) (parts : List HistoryPart) where
  -- A log that was named in part is named to its end, or as far as it goes.
  abbrev pub NamesOn : TimedLog → TimedLog → Counted L → Counted L → Output W → Output W
      → Result (LogNames × LogTimes) LogFault → Type 0
  NamesOn s s' l l' w w' result =
      (first : Counted L) (begun : Output W) (n : ℕ)
      → IsTimedTo kernel rule parts remaining contents first begun n s l w
      → IsNamedOn kernel rule parts remaining contents first begun s' result l' w'
