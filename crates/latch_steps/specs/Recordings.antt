-- What is kept of a run that is recorded.
use Rattle.std.specs.Prelude.{◌≡◌, ◌<◌, ◌^◌, List, [], ◌∷◌, ◌++◌, length, Bool, false}
use Rattle.std.specs.List.{cons_option}
use Rattle.order_laws.specs.Orders.{Order}
use Rattle.latch_steps.specs.declared.events.Event.{Event}
use Rattle.latch_steps.specs.declared.replies.Note.{Note}
use Rattle.latch_steps.specs.declared.replies.Reply.{Reply}
use Rattle.latch_steps.specs.declared.reports.Outcome.{Outcome}
use Rattle.latch_steps.specs.declared.traces.Notes.{Notes}
use Rattle.latch_steps.specs.declared.traces.Recording.{Recording}
use Rattle.latch_steps.specs.declared.traces.Trace.{Trace}
use Rattle.latch_steps.specs.declared.worlds.World.{World}
use Rattle.latch_steps.specs.Traces.{kept, note_of}
use Rattle.latch_steps.specs.Worlds.{CountsExactly, HasSequence}

-- an event is appended, if events are kept
abbrev pub AppendsCopy : {K : Type 0} → Bool → Event K → List (Event K) → List (Event K) → Type 0
AppendsCopy keeps e old new = new ≡ old ++ kept keeps (e ∷ [])

-- what a reply is noted as is appended
abbrev pub AppendsNote : {K : Type 0} → Reply K → List (Note K) → List (Note K) → Type 0
AppendsNote reply old new = new ≡ old ++ cons_option (note_of reply) []

-- an event is kept and its reply is noted, unless memory ran out, also before
abbrev pub Keeps : {K : Type 0} → Bool → Recording K → Event K → Outcome K → Recording K → Type 0
Keeps keeps old e outcome new =
    new.ran_out ≡ false
    → (old.ran_out ≡ false) × AppendsCopy keeps e old.events.items new.events.items
    × AppendsNote outcome.reply old.notes.items new.notes.items

-- nothing is recorded, and nothing is missing
pub record IsEmpty {K : Type 0} (r : Recording K) : Type 0 where
  pub whole : r.ran_out ≡ false
  pub events : r.events.items ≡ []
  pub notes : r.notes.items ≡ []

-- a trace of all that was recorded of a world, and the notes of it if the events were counted
pub record IsWhole {O K : Type 0} (o : Order K) (world : World O K) (r : Recording K)
    (t : Trace O K) : Type 0 where
  pub events : t.events.items ≡ r.events.items
  pub few : length t.events.items < 2 ^ 64
  pub notes : t.notes.items ≡ r.notes.items
  pub sequence : HasSequence o world t.sequence

pub record AreWhole {O K : Type 0} (o : Order K) (world : World O K) (r : Recording K)
    (t : Notes O K) : Type 0 where
  pub few : CountsExactly o world
  pub notes : t.notes.items ≡ r.notes.items
  pub sequence : HasSequence o world t.sequence
