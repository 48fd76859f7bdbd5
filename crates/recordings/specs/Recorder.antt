-- What is read of events and of the listing, and what is written for it.
use Rattle.std.specs.Prelude.{◌≡◌, ◌≤◌, ◌⊎◌, ℕ, ◌-◌, ◌^◌, Bool, true, false, List, [], ◌∷◌, ◌++◌}
use Rattle.std.specs.Prelude.{flat_map}
use Rattle.std.specs.Prelude.{All, length, is_some, Option, Some, None, Result, Ok, Err}
use Rattle.std.specs.Prelude.{if◌then◌else◌}
use Rattle.std.specs.Option.{option_to_list}
use Rattle.std.specs.Io.KnownBytes.{Appends, Consumes, IsAtEnd}
use Rattle.texts.specs.declared.output.Output.{Output}
use Rattle.texts.specs.Lines.{lines_of}
use Rattle.texts.specs.Output.{Delivered, WrotePart, contents_of, error_in, has_failed}
use Rattle.order_laws.specs.declared.refusals.Refusal.TheVariants as refusal
use Rattle.listing.specs.Looks.{are_symbols_hidden}
use Rattle.listing.specs.declared.listing_notes.ListingNote.{ListingNote}
use Rattle.listing.specs.declared.listing_notes.ListingNote.TheVariants.{AllHidden}
use Rattle.logs.specs.Annotation.{IsWriteFault, KeepsNothingBack}
use Rattle.logs.specs.Lines.{lines}
use Rattle.logs.specs.declared.annotation.LogFault.{LogFault}
use Rattle.logs.specs.declared.annotation.LogFault.TheVariants as log_fault
use Rattle.command_parts.specs.declared.fault.Fault.{Fault}
use Rattle.command_parts.specs.declared.fault.Fault.TheVariants.{Read, Refused, TooLong, Write}
use Rattle.command_parts.specs.declared.fault.Finished.{Finished}
use Rattle.command_listings.specs.Following.{AreAsKnown, ReadsOnce, Turn, events_of, read_in}
use Rattle.command_listings.specs.LastingLogs.{Block, Event, Failed, Happen, IsFaultOfListings}
use Rattle.command_listings.specs.LastingLogs.{Listings, Seen}
use Rattle.recordings.specs.EventLines.{EndsLines, said_in}
use Rattle.recordings.specs.ListingTexts.{recorded_text}
use Rattle.recordings.specs.Recordings.{BlockWritten, CarriedOn, after_block, first_carried, needs}
use Rattle.recordings.specs.declared.events.EventLine.{EventLine}
use Rattle.recordings.specs.declared.recorder.Stop.{Stop}
use Rattle.recordings.specs.declared.recorder.Stop.TheVariants as stop
use Rattle.recordings.specs.declared.recorder.TheConstants as text

-- ---- one part of the events

abbrev pub no_memory : Stop
no_memory = stop.Failed (Refused refusal.OutOfMemory)

-- what a reading of the listing gives a history
abbrev pub listing_of : Option Event → Option (List ℕ)
listing_of (Some (Listings g)) = Some (recorded_text (lines g.kallsyms))
listing_of _ = None

-- what is written of lines after which this was read, and what is carried on
abbrev pub written_of : CarriedOn → List EventLine → Option Event → BlockWritten
written_of c said reading = after_block said (listing_of reading) c

-- the listing was not read, or it was, and shows addresses
abbrev pub IsShown : Option Event → Type 0
IsShown None = Unit {0}
IsShown (Some (Listings g)) = are_symbols_hidden (lines_of g.kallsyms) ≡ false
IsShown (Some _) = ⊥

-- the listing was read exactly if a line asks for it
abbrev pub IsAskedFor : CarriedOn → List EventLine → Option Event → Type 0
IsAskedFor c said reading = is_some reading ≡ needs (is_some c.modules) c.is_lost said

-- the fault of a write, as a reason to stop
abbrev pub stop_of : LogFault → Stop
stop_of log_fault.Closed = stop.Closed
stop_of _ = stop.Failed Write

-- The text was written, and nothing is kept back; nothing is done for one without bytes.
abbrev pub Writes : {W : Type 0} → (W → Option (List ℕ)) → Output W → Output W → List ℕ → Type 0
Writes contents w w' text = ((text ≡ []) × (w' ≡ w)) ⊎ Delivered contents w w' text

-- a write of it failed, for this reason
abbrev pub FailsToWrite : {W : Type 0} → (W → Option (List ℕ)) → Output W → Output W → List ℕ
    → Stop → Type 0
FailsToWrite contents w w' text why =
    (f : LogFault) × (why ≡ stop_of f) × WrotePart contents w w' text × IsWriteFault (error_in w') f

-- the text was written, or a write of it failed
abbrev pub PutsText : {W : Type 0} → (W → Option (List ℕ)) → List ℕ → Output W → Output W
    → Result (Unit {0}) Stop → Type 0
PutsText contents text w w' (Ok _) = Writes contents w w' text
PutsText contents text w w' (Err why) = FailsToWrite contents w w' text why

-- a listing was read, or not, for which there is nothing to write: why
abbrev pub HasNoListing : Option Event → Stop → Type 0
HasNoListing (Some (Failed f)) why = IsFaultOfListings f × (why ≡ stop.Failed f)
HasNoListing (Some (Listings g)) why =
    (are_symbols_hidden (lines_of g.kallsyms) ≡ true) × (why ≡ stop.Hidden)
HasNoListing _ why = ⊥

-- The listing was read, and a history may have this of it; or there is none, or no memory.
abbrev pub ReadsListing : Seen → Seen → Result (List ℕ) Stop → Type 0
ReadsListing before after (Ok listing) =
    (event : Event) × ReadsOnce before after (Some event) × IsShown (Some event)
    × (Some listing ≡ listing_of (Some event))
ReadsListing before after (Err why) =
    (event : Event) × ReadsOnce before after (Some event)
    × ((why ≡ no_memory) ⊎ HasNoListing (Some event) why)

-- The listing was read if a line asks for it, and a history may have this of it; or there is none,
-- or no memory.
abbrev pub ReadsFor : CarriedOn → List EventLine → Seen → Seen → Result (Option (List ℕ)) Stop
    → Type 0
ReadsFor c said before after (Ok listing) =
    (reading : Option Event) × ReadsOnce before after reading × IsAskedFor c said reading
    × IsShown reading × (listing ≡ listing_of reading)
ReadsFor c said before after (Err why) =
    (reading : Option Event) × ReadsOnce before after reading
    × ((why ≡ no_memory) ⊎ (IsAskedFor c said reading × HasNoListing reading why))

module _ {W : Type 0} (contents : W → Option (List ℕ)) where
  -- What lines say was written; or nothing was, since there is no memory or no listing; or a write
  -- failed.
  abbrev pub PutsSaid : CarriedOn → List EventLine → Option Event → Output W → Output W
      → Result CarriedOn Stop → Type 0
  PutsSaid c said reading w w' (Ok c') =
      IsAskedFor c said reading × IsShown reading × (c' ≡ (written_of c said reading).carried)
      × Writes contents w w' (written_of c said reading).text
  PutsSaid c said reading w w' (Err why) =
      ((w' ≡ w) × (why ≡ no_memory))
      ⊎ (IsAskedFor c said reading × (w' ≡ w) × HasNoListing reading why)
      ⊎ (IsAskedFor c said reading × IsShown reading
      × FailsToWrite contents w w' (written_of c said reading).text why)

  -- the listing was read for lines if one asks for it, and what they say was written, or not
  abbrev pub PutsLines : CarriedOn → List EventLine → Seen → Seen → Output W → Output W
      → Result CarriedOn Stop → Type 0
  PutsLines c said before after w w' result =
      (reading : Option Event) × ReadsOnce before after reading
      × PutsSaid c said reading w w' result

-- what is written before events are read
abbrev pub first_text : Bool → List ℕ
first_text appended = if appended then [] else text.FIRST_LINE.now

-- ---- all events

-- How far events were recorded: what is carried on, and the line that is open.
pub record Point : Type 0 where
  pub carried : CarriedOn
  pub line : List ℕ

abbrev pub first_point : Point
first_point = record { carried = first_carried; line = [] }

-- After these turns events were recorded to this point, and this text is what they say: for each
-- block what the lines say that have their end in it, by the listing as it was read after it.
pub data IsRecorded : List Turn → Point → List ℕ → Type 0 where
  no_turn : IsRecorded [] first_point []
  one_more : (turns : List Turn) (p : Point) (text ended line' : List ℕ) (t : Turn)
      → IsRecorded turns p text → EndsLines p.line t.block ended line'
      → IsAskedFor p.carried (said_in ended) t.reading → IsShown t.reading
      → IsRecorded (turns ++ t ∷ [])
      (record { carried = (written_of p.carried (said_in ended) t.reading).carried; line = line' })
      (text ++ (written_of p.carried (said_in ended) t.reading).text)

module _ {W : Type 0} (contents : W → Option (List ℕ)) where
  -- Events were recorded through these turns to this point, and what they say was written.
  pub record IsRecordedTo (turns : List Turn) (p : Point) (before after : Seen) (w w' : Output W)
      : Type 0 where
    pub written : List ℕ
    pub recorded : IsRecorded turns p written
    pub happen : Happen before.events after.events (flat_map events_of turns)
    pub consumed : Consumes before.left after.left (read_in turns)
    pub known : All (λ t. AreAsKnown before.later t.reading) turns
    pub appended : Appends (contents_of contents w) (contents_of contents w') written
    pub sound : has_failed w' ≡ has_failed w
    pub none_back : KeepsNothingBack w w'

  -- Then they cannot be read;
  abbrev pub IsUnread : Seen → Seen → Output W → Output W → Result (Unit {0}) Stop → Type 0
  IsUnread before after w w' result =
      Happen before.events after.events (Failed (Read 3) ∷ []) × (w' ≡ w)
      × (result ≡ Err (stop.Failed (Read 3)))

  -- or there is no memory, after they were read on or not;
  abbrev pub IsOutOfMemory : Seen → Seen → Output W → Output W → Result (Unit {0}) Stop → Type 0
  IsOutOfMemory before after w w' result =
      (t : Turn) × Happen before.events after.events (events_of t)
      × Consumes before.left after.left t.block × (w' ≡ w) × (result ≡ Err no_memory)

  -- or one block more ends it: there is no listing for it, or a write failed;
  abbrev pub IsStopped : Point → Seen → Seen → Output W → Output W → Result (Unit {0}) Stop → Type 0
  IsStopped p before after w w' result =
      (t : Turn) × (ended : List ℕ) × (line' : List ℕ) × (why : Stop)
      × Happen before.events after.events (events_of t)
      × Consumes before.left after.left t.block × AreAsKnown before.later t.reading
      × EndsLines p.line t.block ended line'
      × PutsSaid contents p.carried (said_in ended) t.reading w w' (Err why) × (result ≡ Err why)

  -- what is returned of the last line
  abbrev pub EndsSo : Point → Option Event → Output W → Output W → Result (Unit {0}) Stop → Type 0
  EndsSo p reading w w' (Ok _) =
      (c : CarriedOn) × PutsSaid contents p.carried (said_in p.line) reading w w' (Ok c)
  EndsSo p reading w w' (Err why) =
      PutsSaid contents p.carried (said_in p.line) reading w w' (Err why)

  -- or they are at their end;
  abbrev pub IsEnded : Point → Seen → Seen → Output W → Output W → Result (Unit {0}) Stop → Type 0
  IsEnded p before after w w' result =
      (reading : Option Event)
      × Happen before.events after.events (Block [] ∷ option_to_list reading)
      × IsAtEnd after.left × AreAsKnown before.later reading × EndsSo p reading w w' result

  -- or they have more blocks than are counted.
  abbrev pub IsTooLong : List Turn → Seen → Seen → Output W → Output W → Result (Unit {0}) Stop
      → Type 0
  IsTooLong turns before after w w' result =
      (2 ^ 64 - 1 ≤ length turns) × (after ≡ before) × (w' ≡ w)
      × (result ≡ Err (stop.Failed (TooLong 3)))

  -- How events were recorded.
  abbrev pub RecordsBlocks : Seen → Seen → Output W → Output W → Result (Unit {0}) Stop → Type 0
  RecordsBlocks before after w w' result =
      (turns : List Turn) × (p : Point) × (mid : Seen) × (w1 : Output W)
      × IsRecordedTo turns p before mid w w1
      × (IsUnread mid after w1 w' result ⊎ IsOutOfMemory mid after w1 w' result
      ⊎ IsStopped p mid after w1 w' result ⊎ IsEnded p mid after w1 w' result
      ⊎ IsTooLong turns mid after w1 w' result)

  -- There is no memory; or the first line is not written; or it is, and events were recorded.
  abbrev pub Records : Bool → Seen → Seen → Output W → Output W → Result (Unit {0}) Stop → Type 0
  Records appended before after w w' result =
      ((after ≡ before) × (w' ≡ w) × (result ≡ Err no_memory))
      ⊎ ((after ≡ before) × (why : Stop)
      × FailsToWrite contents w w' (first_text appended) why × (result ≡ Err why))
      ⊎ ((w1 : Output W) × Writes contents w w1 (first_text appended)
      × RecordsBlocks before after w1 w' result)

-- the end of a recording as the end of a job: a listing that is hidden is told as its note
abbrev pub ending : Option ListingNote → ℕ → Finished
ending note status = record { status = status; notes = record { modules = None; kallsyms = note } }

abbrev pub finished : Result (Unit {0}) Stop → Result Finished Fault
finished (Ok _) = Ok (ending None 0)
finished (Err stop.Closed) = Ok (ending None 1)
finished (Err stop.Hidden) = Ok (ending (Some AllHidden) 1)
finished (Err (stop.Failed fault)) = Err fault

-- What the engine returns: what the recording came to.
abbrev pub RecordsEvents : {W : Type 0} → (W → Option (List ℕ)) → Bool → Seen → Seen → Output W
    → Output W → Result Finished Fault → Type 0
RecordsEvents contents appended before after w w' result =
    (end : Result (Unit {0}) Stop) × Records contents appended before after w w' end
    × (result ≡ finished end)
