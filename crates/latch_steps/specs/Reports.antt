-- How the events of a run are reported, the commands that a world obeys so, and a lookup that is
-- held apart while its loads run.
use Rattle.std.specs.Prelude.{◌≡◌, ℕ, Bool, ◌&&◌, ◌||◌, List, [], ◌∷◌, is_none, Option, None, Some}
use Rattle.std.specs.Prelude.{◌≢◌}
use Rattle.order_laws.specs.Orders.{Order}
use Rattle.word_layout.specs.Words.{at}
use Rattle.word_layout.specs.Layouts.{capacity_of}
use Rattle.latch_steps.specs.declared.commands.Command.{Command}
use Rattle.latch_steps.specs.declared.events.Event.{Event}
use Rattle.latch_steps.specs.declared.events.Event.TheVariants.{Write, Read}
use Rattle.latch_steps.specs.declared.replies.NextLoad.{NextLoad}
use Rattle.latch_steps.specs.declared.replies.Reply.{Reply}
use Rattle.latch_steps.specs.declared.reports.Outcome.{Outcome}
use Rattle.latch_steps.specs.declared.worlds.World.{World}
use Rattle.latch_steps.specs.Expands.{Repeats, ends, event_of, most_of}
use Rattle.latch_steps.specs.Near.{AreShallow}
use Rattle.latch_steps.specs.Lookups.{load_of, IsPendingLookup}
use Rattle.latch_steps.specs.Quiet.{is_flip}
use Rattle.latch_steps.specs.Runs.{Done, Moment, last_of, step_done}
use Rattle.latch_steps.specs.Steps.{Run, Machine, machine}
use Rattle.latch_steps.specs.Worlds.{RepresentsMoment, layout_in, machine_in}
use Rattle.std.specs.FinMap.{get}
use Rattle.latch_steps.specs.declared.commands.Command.TheVariants.{Read as ReadCommand}
use Rattle.latch_steps.specs.declared.lookups.Lookup.{Lookup}
use Rattle.latch_steps.specs.declared.lookups.LookupProgress.{LookupProgress}

-- what an event loads at a moment, if it is a load of a pending lookup
abbrev pub load_by : {K : Type 0} → Order K → ℕ → Moment K → Event K → Option (NextLoad K)
load_by o n w (Read r) = load_of o n w r
load_by o n w _ = None

-- what the event came to that was done at a moment
abbrev pub outcome_of : {K : Type 0} → Order K → ℕ → Moment K → Done K → Outcome K
outcome_of o n w d = record {
  number = d.after.events;
  load = load_by o n w d.event;
  reply = d.reply;
  sequence = at d.after.latch.words 0;
}

-- Each event of a run from a moment was reported: `reports` says what one report makes of what
-- takes them.
abbrev pub AreReported : {K T : Type 0} → Order K → ℕ → (T → Event K → Outcome K → T → Type 0)
    → Moment K → List (Done K) → T → T → Type 0
AreReported o n reports w [] a b = b ≡ a
AreReported {K} {T} o n reports w (d ∷ run) a b =
    (mid : T) × reports a d.event (outcome_of o n w d) mid
    × AreReported o n reports d.after run mid b

-- whether this step of the writer, with the moment after it, is its last one for now
abbrev pub ends_writing : {K : Type 0} → Bool → Reply K → Moment K → Bool
ends_writing to_flip reply w = (to_flip && is_flip reply) || is_none w.latch.pending

-- a command that asks for such steps
abbrev pub IsWriting : {K : Type 0} → Bool → Command K → Type 0
IsWriting {K} to_flip c =
    (event_of c ≡ Write)
    × ((reply : Reply K) (w : Moment K) → ends c reply w ≡ ends_writing to_flip reply w)

module _ {O K T : Type 0} (o : Order K) (reports : T → Event K → Outcome K → T → Type 0) where
  -- from a moment that it shows a world did this run, over red-black trees, and reported its events
  pub record IsReportedRun (old new : World O K) (a b : T) (w : Moment K) (run : List (Done K))
      : Type 0 where
    pub layout : layout_in new ≡ layout_in old
    pub steps : Run (machine_in o old) w run
    pub shows : RepresentsMoment o new (last_of w run)
    pub shallow : AreShallow (capacity_of (layout_in old)) run
    pub reported : AreReported o (capacity_of (layout_in old)) reports w run a b

  -- one event, from each moment that the world shows
  abbrev pub ReportsEvent : Event K → World O K → World O K → T → T → Reply K → Type 0
  ReportsEvent e old new a b reply =
      (w : Moment K) → RepresentsMoment o old w
      → (next : Moment K) × IsReportedRun old new a b w (step_done e reply next ∷ [])

  -- a command's event, at most so often as this count says
  abbrev pub Obeys : Command K → World O K → World O K → T → T → Moment K → ℕ → Type 0
  Obeys c old new a b w most =
      (run : List (Done K)) × IsReportedRun old new a b w run × Repeats c most run

  -- From each moment that the world shows: a command's event as often as the command says; an event
  -- for any command that asks for it once; and steps of the writer that a command asks for.
  abbrev pub ObeysFromAny : Command K → World O K → World O K → T → T → Type 0
  ObeysFromAny c old new a b =
      (w : Moment K) → RepresentsMoment o old w → Obeys c old new a b w (most_of w c)

  abbrev pub ObeysOnce : Event K → World O K → World O K → T → T → Type 0
  ObeysOnce e old new a b =
      (c : Command K) → e ≡ event_of c
      → (w : Moment K) → RepresentsMoment o old w → Obeys c old new a b w 1

  abbrev pub ObeysWriting : Bool → ℕ → World O K → World O K → T → T → Type 0
  ObeysWriting to_flip most old new a b =
      (c : Command K) → IsWriting to_flip c
      → (w : Moment K) → RepresentsMoment o old w → Obeys c old new a b w most

-- of whatever moment a world shows: what an event loads, and whether the writer's steps end
abbrev pub IsLoadBy : {O K : Type 0} → Order K → World O K → Event K → Option (NextLoad K) → Type 0
IsLoadBy {O} {K} o c e load =
    (w : Moment K) → RepresentsMoment o c w → load ≡ load_by o (capacity_of (layout_in c)) w e

abbrev pub EndsAt : {O K : Type 0} → Order K → World O K → Bool → Reply K → Bool → Type 0
EndsAt {O} {K} o c to_flip reply whether =
    (w : Moment K) → RepresentsMoment o c w → whether ≡ ends_writing to_flip reply w

-- a moment differs from an earlier one in this reader's lookup and in the count of events alone
pub record ChangesOneLookup {O K : Type 0} (o : Order K) (n : ℕ) (w v : Moment K) (r : ℕ)
    (c : Option (Lookup O K)) (count : ℕ) : Type 0 where
  pub latch : v.latch ≡ w.latch
  pub lookup : IsPendingLookup o n c (get v.lookups r)
  pub others : (q : ℕ) → q ≢ r → get v.lookups q ≡ get w.lookups q
  pub events : count ≡ v.events

-- loads of the reader from a moment, as one command asks for them, came to this and were reported
pub record LoadsOn {O K T : Type 0} (m : Machine K)
    (reports : T → Event K → Outcome K → T → Type 0) (w : Moment K) (r most : ℕ)
    (a : T) (loads : LookupProgress O K) (b : T) : Type 0 where
  pub run : List (Done K)
  pub steps : Run m w run
  pub repeats : Repeats (ReadCommand r most) most run
  pub reported : AreReported m.order m.capacity reports w run a b
  pub holding : ChangesOneLookup m.order m.capacity w (last_of w run) r loads.lookup loads.events

module _ {O K T : Type 0} (o : Order K) (reports : T → Event K → Outcome K → T → Type 0) where
  -- they came to it from each moment of these words that has this pending lookup, after `events`
  -- events
  abbrev pub LoadsFrom : List ℕ → Lookup O K → ℕ → ℕ → ℕ → T → LookupProgress O K → T → Type 0
  LoadsFrom words c r most events a loads b =
      (n limit : ℕ) (w : Moment K) → w.latch.words ≡ words
      → IsPendingLookup o n (Some c) (get w.lookups r) → events ≡ w.events
      → LoadsOn (machine o n limit) reports w r most a loads b
