-- What a trace says of the run that it is of.
use Rattle.std.specs.Prelude.{◌≡◌, ℕ, Bool, true, false, List, [], ◌∷◌, Option, Some, None}
use Rattle.std.specs.Prelude.{filter_map}
use Rattle.latch_steps.specs.declared.events.Event.{Event}
use Rattle.latch_steps.specs.declared.replies.Reply.{Reply}
use Rattle.latch_steps.specs.declared.replies.Reply.TheVariants.{Returned as ReturnedReply, Refused}
use Rattle.latch_steps.specs.declared.replies.Note.{Note}
use Rattle.latch_steps.specs.declared.replies.Note.TheVariants.{Returned as ReturnedNote}
use Rattle.latch_steps.specs.declared.replies.Note.TheVariants.{Refused as RefusedNote}
use Rattle.order_laws.specs.Orders.{Order}
use Rattle.word_layout.specs.Words.{at}
use Rattle.word_layout.specs.declared.layouts.Layout.{Layout}
use Rattle.word_layout.specs.Layouts.{capacity_of}
use Rattle.latch_steps.specs.Runs.{Done, last_of, opening}
use Rattle.latch_steps.specs.Steps.{machine_of, Run}
use Rattle.latch_steps.specs.declared.traces.Trace.{Trace}

-- the events of a run, in order
abbrev pub events_of : {K : Type 0} → List (Done K) → List (Event K)
events_of [] = []
events_of (d ∷ run) = d.event ∷ events_of run

-- a list if it is kept, and else nothing
abbrev pub kept : {X : Type 0} → Bool → List X → List X
kept true xs = xs
kept false xs = []

-- what a reply is noted as: a lookup that returned, or a refusal
abbrev pub note_of : {K : Type 0} → Reply K → Option (Note K)
note_of (ReturnedReply x) = Some (ReturnedNote x)
note_of (Refused why) = Some (RefusedNote why)
note_of _ = None

-- and the notes of a run, in order
abbrev pub notes_of : {K : Type 0} → List (Done K) → List (Note K)
notes_of run = filter_map (λ d. note_of d.reply) run

-- the trace of this run from the opening: its events and its notes in order, and its last sequence
pub record IsTraceOf {O K : Type 0} (o : Order K) (l : Layout) (start : ℕ) (t : Trace O K)
    (run : List (Done K)) : Type 0 where
  pub steps : Run (machine_of o l) (opening (capacity_of l) start) run
  pub events : t.events.items ≡ events_of run
  pub notes : t.notes.items ≡ notes_of run
  pub sequence : t.sequence ≡ at (last_of (opening (capacity_of l) start) run).latch.words 0

-- the notes of this run from the opening, in order, and its last sequence
pub record AreNotesOf {K : Type 0} (o : Order K) (l : Layout) (start : ℕ) (noted : List (Note K))
    (last : ℕ) (run : List (Done K)) : Type 0 where
  pub steps : Run (machine_of o l) (opening (capacity_of l) start) run
  pub notes : noted ≡ notes_of run
  pub sequence : last ≡ at (last_of (opening (capacity_of l) start) run).latch.words 0
