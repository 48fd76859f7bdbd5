-- What was done to a latched tree from its opening on, one step after another, and what it came to.
use Rattle.std.specs.Prelude.{ℕ, List, [], ◌∷◌, ◌++◌, take}
use Rattle.std.specs.Ordering.{nat_cmp}
use Rattle.std.specs.FinMap.{FinMap, empty}
use Rattle.table_updates.specs.declared.updates.Update.{Update}
use Rattle.latch_steps.specs.declared.events.Event.{Event}
use Rattle.latch_steps.specs.declared.events.Event.TheVariants.{Begin}
use Rattle.latch_steps.specs.declared.replies.Reply.{Reply}
use Rattle.latch_steps.specs.declared.replies.Reply.TheVariants.{Begun}
use Rattle.latch_core.specs.Latches.{Latch, opening_latch}

-- a pending lookup: its key, how many events there were up to and with its start, how many loads
-- and attempts it has made, and what it has loaded in this attempt
pub record PendingLookup (K : Type 0) : Type 0 where
  pub key : K
  pub first : ℕ
  pub loads : ℕ
  pub attempts : ℕ
  pub values : List ℕ

-- the latch, the pending lookups by reader, and how many events there were
pub record Moment (K : Type 0) : Type 0 where
  pub latch : Latch
  pub lookups : FinMap nat_cmp (PendingLookup K)
  pub events : ℕ

-- before any event: an empty table of n nodes, with its sequence at the start
abbrev pub opening : {K : Type 0} → ℕ → ℕ → Moment K
opening n start = record { latch = opening_latch n start; lookups = empty; events = 0 }

-- what was done: an event, its reply, and the moment after it
pub record Done (K : Type 0) : Type 0 where
  pub event : Event K
  pub reply : Reply K
  pub after : Moment K

-- so written in one word
abbrev pub step_done : {K : Type 0} → Event K → Reply K → Moment K → Done K
step_done e reply w = record { event = e; reply = reply; after = w }

-- the update that an event began, if it did
abbrev pub accepted : {K : Type 0} → Event K → Reply K → List Update
accepted (Begin u) (Begun left) = u ∷ []
accepted _ _ = []

-- the updates that were accepted, in order
abbrev pub history : {K : Type 0} → List (Done K) → List Update
history [] = []
history (d ∷ run) = accepted d.event d.reply ++ history run

-- the moment that a run comes to
abbrev pub last_of : {K : Type 0} → Moment K → List (Done K) → Moment K
last_of w [] = w
last_of w (d ∷ run) = last_of d.after run

-- the moment after some of its events
abbrev pub moment_at : {K : Type 0} → Moment K → List (Done K) → ℕ → Moment K
moment_at w run i = last_of w (take i run)
