-- A log that is annotated by a history, by the offset of its kernel, which it says itself.
use Rattle.std.specs.Prelude.{◌≡◌, ◌⊎◌, ℕ, List, Option, Some, None, Result, Ok, Err}
use Rattle.std.specs.Prelude.{IfSome, IsErrAnd}
use Rattle.std.specs.Borrow.{Bor}
use Rattle.texts.specs.Counted.{NoneFailed, device_of, failures_of}
use Rattle.texts.specs.declared.counted.Counted.{Counted}
use Rattle.texts.specs.declared.output.Output.{Output}
use Rattle.order_laws.specs.declared.refusals.Refusal.TheVariants as refusal
use Rattle.histories.specs.Grammar.{HistoryPart}
use Rattle.histories.specs.ListingsAt.{listing_at}
use Rattle.command_parts.specs.HistoryFiles.{IsHistoryRead, IsNoHistory, symbols_alone}
use Rattle.command_parts.specs.Readings.{IsReadAs}
use Rattle.command_parts.specs.declared.fault.Fault.{Fault}
use Rattle.command_parts.specs.declared.fault.Fault.TheVariants.{Refused}
use Rattle.command_listings.specs.HistoryAnnotations.{AnnotatesBy}
use Rattle.command_listings.specs.OwnOffsets.{FailsBy, IsUnwritten, WritesByOffset, by_offset}
use Rattle.command_listings.specs.OwnOffsets.{own_offset}
use Rattle.command_listings.specs.TimedLogs.{first_listing}
use Rattle.command_listings.specs.declared.annotations.Annotate.{Annotate}
use Rattle.command_listings.specs.declared.own_offsets.NoOffset.{NoOffset}
use Rattle.command_listings.specs.declared.sources.Sources.{Sources}

-- the job with this offset
abbrev pub job_by : ℕ → Annotate → Annotate
job_by offset a = record a { rule = by_offset offset a.rule }

-- a text that is read from memory has these bytes left
abbrev pub left_in_memory : Bor (List ℕ) → Option (List ℕ)
left_in_memory text = Some text.now

module _ {W E : Type 0} (contents : W → Option (List ℕ)) (errors : E → Option (List ℕ))
    (q : Sources) (a : Annotate) (w w' : Output W) (e e' : Output E) where
  -- the log with this text was annotated at offset 0, each line by the listing at its time
  abbrev pub AnnotatesText : List HistoryPart → List ℕ → Result ℕ Fault → Type 0
  AnnotatesText parts log result =
      (l : Counted (Bor (List ℕ))) × (l' : Counted (Bor (List ℕ)))
      × (left_in_memory (device_of l) ≡ Some log)
      × AnnotatesBy left_in_memory contents errors q (job_by 0 a) l l' w w' e e' parts result

  -- this if the log says offset 0, or else it was written by the first listing and what the log
  -- says
  abbrev pub WritesTimedBy : List HistoryPart → List ℕ → Result ℕ NoOffset → Result ℕ Fault → Type 0
  WritesTimedBy parts log said result =
      ((said ≡ Ok 0) × AnnotatesText parts log result)
      ⊎ ((said ≡ Ok 0 → ⊥)
      × WritesByOffset contents errors q a w w' e e' (symbols_alone (first_listing parts)) log said
      result)

  -- this, unless memory ran out before
  abbrev pub WritesTimed : List HistoryPart → List ℕ → Result ℕ NoOffset → Result ℕ Fault → Type 0
  WritesTimed parts log said result =
      FailsBy contents errors q a w w' e e' (Refused refusal.OutOfMemory) result
      ⊎ WritesTimedBy parts log said result

  -- the log was written by the listing at a time, unless memory ran out before
  abbrev pub WritesAtTime : List HistoryPart → List ℕ → List ℕ → Result ℕ Fault → Type 0
  WritesAtTime parts log listing result =
      FailsBy contents errors q a w w' e e' (Refused refusal.OutOfMemory) result
      ⊎ WritesByOffset contents errors q a w w' e e' (symbols_alone listing) log
      (own_offset log listing) result

  -- The log with this text was written by a history with these parts: each line by the listing at
  -- its time, or all lines by the listing at a time.
  abbrev pub WritesAt : Option ℕ → List HistoryPart → List ℕ → Result ℕ Fault → Type 0
  WritesAt None parts log result =
      WritesTimed parts log (own_offset log (first_listing parts)) result
  WritesAt (Some time) parts log result =
      WritesAtTime parts log (listing_at (Some time) parts) result

  -- So it was with the log that was read, unless it could not be read. Its place among the files is
  -- 3.
  abbrev pub WritesLogAt : {L : Type 0} → Option ℕ → List HistoryPart → (L → Option (List ℕ))
      → Counted L → Counted L → Result ℕ Fault → Type 0
  WritesLogAt time parts remaining l l' result =
      ((fault : Fault) × IsReadAs {A = ℕ} 3 (failures_of l) (failures_of l') (Err fault)
      × FailsBy contents errors q a w w' e e' fault result)
      ⊎ ((log : List ℕ) × IfSome (remaining (device_of l)) (λ text. log ≡ text)
      × NoneFailed l l' × WritesAt time parts log result)

  -- What the engine returns: there is no history, and nothing else was touched; or the log was
  -- written by it.
  abbrev pub WritesByHistoryOffset : {H L : Type 0} → (H → Option (List ℕ))
      → (L → Option (List ℕ)) → Option ℕ → Counted H → Counted H → Counted L → Counted L
      → Result ℕ Fault → Type 0
  WritesByHistoryOffset known remaining time h h' l l' result =
      (IsErrAnd result (IsNoHistory known h h') × (l' ≡ l)
      × IsUnwritten contents errors q a w w' e e')
      ⊎ ((parts : List HistoryPart) × IsHistoryRead known h h' parts
      × WritesLogAt time parts remaining l l' result)
