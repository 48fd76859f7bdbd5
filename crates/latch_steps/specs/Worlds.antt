-- What a world of the code means: a moment of the definitions, and one after a history of
-- accepted updates.
use Rattle.std.specs.Prelude.{◌≡◌, ℕ, ◌-◌, ◌^◌, ◌<◌, List, ◌++◌, Option, None}
use Rattle.std.specs.Ordering.{nat_cmp}
use Rattle.std.specs.FinMap.{FinMap, get}
use Rattle.table_updates.specs.declared.updates.Update.{Update}
use Rattle.order_laws.specs.Orders.{Order}
use Rattle.word_layout.specs.Words.{at}
use Rattle.latch_steps.specs.declared.events.Event.{Event}
use Rattle.latch_steps.specs.declared.replies.Reply.{Reply}
use Rattle.latch_steps.specs.Expands.{writes_left}
use Rattle.word_layout.specs.declared.layouts.Layout.{Layout}
use Rattle.word_layout.specs.Layouts.{capacity_of, limit_of}
use Rattle.latch_core.specs.Writers.{RepresentsLatch}
use Rattle.latch_steps.specs.declared.lookups.Lookup.{Lookup}
use Rattle.latch_steps.specs.declared.worlds.World.{World}
use Rattle.latch_steps.specs.Runs.{PendingLookup, Moment, accepted}
use Rattle.latch_steps.specs.Steps.{Machine, machine_of}
use Rattle.latch_steps.specs.Lookups.{IsPendingLookup, lookup_at}
use Rattle.latch_core.specs.Invariants.{IsSound}

-- the layout of a world
abbrev pub layout_in : {O K : Type 0} → World O K → Layout
layout_in c = c.layout

-- its machine
abbrev pub machine_in : {O K : Type 0} → Order K → World O K → Machine K
machine_in o c = machine_of o (layout_in c)

-- each reader has the pending lookup that the moment has
abbrev pub ArePendingLookups : {O K : Type 0} → Order K → ℕ → (ℕ → Option (Lookup O K))
    → FinMap nat_cmp (PendingLookup K) → Type 0
ArePendingLookups o n cs ls = (r : ℕ) → IsPendingLookup o n (cs r) (get ls r)

-- the world has the moment's words, pending update, pending lookups and count
pub record RepresentsMoment {O K : Type 0} (o : Order K) (c : World O K) (w : Moment K)
    : Type 0 where
  pub capacity : c.writer.capacity ≡ capacity_of c.layout
  pub limit : c.writer.limit ≡ limit_of c.layout
  pub words : c.words.items ≡ w.latch.words
  pub writer : RepresentsLatch c.writer w.latch
  pub lookups : ArePendingLookups o (capacity_of c.layout) (lookup_at c.lookups) w.lookups
  pub events : c.events ≡ w.events

-- no moment that it shows has a pending update
abbrev pub IsAtRest : {O K : Type 0} → Order K → World O K → Type 0
IsAtRest {O} {K} o c = (w : Moment K) → RepresentsMoment o c w → w.latch.pending ≡ None

-- the world shows a moment after these accepted updates, from this opening sequence on
pub record IsAfter {O K : Type 0} (o : Order K) (start' : ℕ) (us : List Update)
    (c : World O K) : Type 0 where
  pub moment : Moment K
  pub shows : RepresentsMoment o c moment
  pub sound : IsSound o (capacity_of (layout_in c)) start' us moment.latch

-- of whatever moment it shows: the sequence, the steps that are left, the count of events, and that
-- this is still below the greatest
abbrev pub HasSequence : {O K : Type 0} → Order K → World O K → ℕ → Type 0
HasSequence {O} {K} o c sequence =
    (w : Moment K) → RepresentsMoment o c w → sequence ≡ at w.latch.words 0

abbrev pub HasStepsLeft : {O K : Type 0} → Order K → World O K → ℕ → Type 0
HasStepsLeft {O} {K} o c left =
    (w : Moment K) → RepresentsMoment o c w → left ≡ writes_left w.latch.pending

abbrev pub HasEvents : {O K : Type 0} → Order K → World O K → ℕ → Type 0
HasEvents {O} {K} o c events = (w : Moment K) → RepresentsMoment o c w → events ≡ w.events

abbrev pub CountsExactly : {O K : Type 0} → Order K → World O K → Type 0
CountsExactly {O} {K} o c = (w : Moment K) → RepresentsMoment o c w → w.events < 2 ^ 64 - 1

-- an event after these updates is after these and the one that it accepted
abbrev pub StaysAfter :
    {O K : Type 0} → Order K → World O K → Event K → Reply K → World O K → Type 0
StaysAfter o old e reply new =
    (start : ℕ) (us : List Update) → IsAfter o start us old
    → IsAfter o start (us ++ accepted e reply) new
