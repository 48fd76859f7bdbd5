-- The writer, and what its calls promise.
use Rattle.std.specs.Prelude.{◌≡◌, ◌⊎◌, ℕ, ◌+◌, ◌-◌, ◌*◌, ◌<◌, ◌≤◌, List, [], ◌∷◌, ◌++◌, length}
use Rattle.std.specs.Prelude.{take, Option, Some, None, if◌then◌else◌, ◌==◌}
use Rattle.atomic_table.specs.Table.{Me}
use Rattle.atomic_table.specs.Seated.{TableId}
use Rattle.order_laws.specs.declared.items.Item.{Item}
use Rattle.order_laws.specs.declared.refusals.Refusal.{Refusal}
use Rattle.order_laws.specs.declared.refusals.Refusal.TheVariants.{OutOfMemory, BadCapacity}
use Rattle.order_laws.specs.Orders.{Order}
use Rattle.order_laws.specs.Tables.{look}
use Rattle.word_layout.specs.declared.layouts.Layout.{Layout}
use Rattle.word_layout.specs.declared.stores.Store.{Store as Stored}
use Rattle.word_layout.specs.Layouts.{capacity_of, limit_of}
use Rattle.word_layout.specs.Words.{at}
use Rattle.table_updates.specs.declared.updates.Update.{Update}
use Rattle.latch_core.specs.Sequences.{generation_of}
use Rattle.table_updates.specs.Updates.{most_steps, replay}
use Rattle.latch_core.specs.Attempts.{Answer, attempt, IsAttempt}
use Rattle.latch_core.specs.Latches.{PendingUpdate, Latch, IsWriterStep, latch_after_step}
use Rattle.latch_core.specs.Latches.{latch_with_update, opening_latch}
use Rattle.latch_core.specs.Invariants.{IsSound}
use Rattle.latch_core.specs.WriterViews.{WriterView}
use Rattle.latch_core.specs.Writers.{RepresentsLatch, MayOpen, latch_refusal}
use Rattle.latch_table.specs.declared.knowledge.Knowledge.{Knowledge}
use Rattle.latch_table.specs.declared.knowledge.WriterKnowledge.{WriterKnowledge}
use Rattle.latch_table.specs.declared.writers.Did.{Did}
use Rattle.latch_table.specs.declared.writers.Did.TheVariants.{Flip, Store}
use Rattle.latch_core.specs.Latched.{loads_of}
use Rattle.latch_table.specs.Limits.{most_readers}
use Rattle.latch_table.specs.Seats.{writer_of, writer_knowledge}

-- The writer, as clauses see it: its table, how many readers came with it, the opening generation,
-- the number of nodes and the greatest sequence; all accepted updates; the words, the table after
-- these updates and the pending update; the loads of its last lookup
pub record WriterState : Type 0 where
  pub place : TableId
  pub readers : ℕ
  pub base : ℕ
  pub capacity : ℕ
  pub limit : ℕ
  pub history : List Update
  pub latch : Latch
  pub loads : List (ℕ × ℕ)

-- the updates that were shown
abbrev pub shown_updates : WriterState → List Update
shown_updates w = take (generation_of (at w.latch.words 0) - w.base) w.history

-- an update is pending while stores are left
abbrev pub pending_while_left : List Stored → PendingUpdate → Option PendingUpdate
pending_while_left [] h = None
pending_while_left (s ∷ ss) h = Some h

-- the pending update, by the stores that are left
abbrev pub pending_of : List Stored → WriterKnowledge → Option PendingUpdate
pending_of left p =
    pending_while_left left (record {
      old_table = p.old;
      old_words = p.began;
      flips_made = at p.picture 0 + 2 - (2 * p.base + 2 * length p.accepted);
      steps_left = length left;
    })

-- of what its seat knows and of its core
abbrev pub writer_state : TableId → ℕ → Knowledge → WriterView → WriterState
writer_state place readers v core =
    let p = writer_of v in
    record {
      place = place;
      readers = readers;
      base = p.base;
      capacity = core.capacity;
      limit = core.limit;
      history = p.accepted;
      latch = record {
        words = p.picture;
        newest_table = core.table;
        pending = pending_of core.stores_left p;
      };
      loads = p.loads;
    }

-- the core pictures the words, and the seat knows the updates that were shown
pub record IsTied {S K : Type 0} (o : Order K) (m : Me S Knowledge) (core : WriterView)
    (w : WriterState) : Type 0 where
  pub alone : m ≡ (writer_knowledge (writer_of m.0), [])
  pub capacity : (writer_of m.0).capacity ≡ w.capacity
  pub pictures : RepresentsLatch core w.latch
  pub sound : IsSound o w.capacity (2 * w.base) w.history w.latch
  pub known : (writer_of m.0).known ≡ shown_updates w

-- how many steps are left
abbrev pub steps_left_of : Option PendingUpdate → ℕ
steps_left_of None = 0
steps_left_of (Some h) = h.steps_left

-- the writer with a pending update, and after a step of it
abbrev pub state_with_update : {K : Type 0} → Order K → WriterState → Update → ℕ → WriterState
state_with_update o w u left =
    record w { history = w.history ++ u ∷ []; latch = latch_with_update o w.latch u left }

abbrev pub state_after_step : WriterState → PendingUpdate → Stored → WriterState
state_after_step w h s = record w { latch = latch_after_step w.latch h s }

abbrev pub kind_of_store : Stored → Did
kind_of_store s = if s.word == 0 then Flip else Store

-- why an update is refused
abbrev pub writer_refusal : {K : Type 0} → Order K → WriterState → Update → Option Refusal
writer_refusal o w u = latch_refusal o w.capacity w.limit w.latch u

abbrev pub Refuses : {K : Type 0} → Order K → WriterState → Update → Refusal → Type 0
Refuses o w u e =
    (writer_refusal o w u ≡ Some e) ⊎ ((writer_refusal o w u ≡ None) × (e ≡ OutOfMemory))

-- the update is pending, and is the last that was accepted
abbrev pub Begins : {K : Type 0} → Order K → WriterState → Update → WriterState → Type 0
Begins o w u w' =
    (writer_refusal o w u ≡ None)
    × ((left : ℕ) × (0 < left) × (left ≤ most_steps w.capacity u)
    × (w' ≡ state_with_update o w u left))

-- one step of the pending update, of the kinds that a writer may make; or it is at its end
abbrev pub Steps : WriterState → WriterState → Option Did → Type 0
Steps w w' None =
    (w.latch.pending ≡ None) × (w' ≡ w) × (shown_updates w ≡ w.history)
    × (generation_of (at w.latch.words 0) ≡ w.base + length w.history)
Steps w w' (Some did) =
    (steps_left_of w'.latch.pending + 1 ≡ steps_left_of w.latch.pending)
    × ((h : PendingUpdate) × (s : Stored) × (w.latch.pending ≡ Some h)
    × IsWriterStep w.capacity w.latch h s
    × (did ≡ kind_of_store s) × (w' ≡ state_after_step w h s))

-- nothing else changes on the way from w to w'
abbrev pub OnTheWay : WriterState → WriterState → Type 0
OnTheWay w w' = w' ≡ record w { latch = w'.latch }

-- no update is pending, and all accepted updates were shown
abbrev pub Finishes : WriterState → WriterState → ℕ → Type 0
Finishes w w' g =
    OnTheWay w w' × (w'.latch.pending ≡ None) × (shown_updates w' ≡ w.history)
    × (g ≡ w.base + length w.history)

-- one attempt of the writer, which finds what the key lies in after the updates that were shown
abbrev pub Finds : {K : Type 0} → Order K → WriterState → K → WriterState → Option Item × ℕ → Type 0
Finds o w k w' r =
    (w' ≡ record w { loads = w'.loads })
    × (r.0 ≡ look o k (replay o [] (shown_updates w))) × (r.1 ≡ generation_of (at w.latch.words 0))
    × ((v : List ℕ) × IsAttempt o w.capacity k v (Answer r.0 r.1)
    × (w'.loads ≡ loads_of (attempt o w.capacity k) v)
    × (length v ≤ 4 * length (replay o [] (shown_updates w)) + 3))

-- a writer that has shown nothing
abbrev pub new_writer : TableId → Layout → ℕ → ℕ → WriterState
new_writer place l start readers =
    record {
      place = place;
      readers = readers;
      base = generation_of start;
      capacity = capacity_of l;
      limit = limit_of l;
      history = [];
      latch = opening_latch (capacity_of l) start;
      loads = [];
    }

-- an opening is refused by its numbers, and else because memory ran out
abbrev pub MayOpenWith : Layout → ℕ → ℕ → Type 0
MayOpenWith l start readers = MayOpen l start × (0 < readers) × (readers ≤ most_readers)

abbrev pub RefusesOpening : Layout → ℕ → ℕ → Refusal → Type 0
RefusesOpening l start readers e =
    ((e ≡ BadCapacity) × (MayOpenWith l start readers → ⊥))
    ⊎ ((e ≡ OutOfMemory) × MayOpenWith l start readers)
