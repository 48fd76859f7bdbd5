-- What is promised of a lookup that the writer leaves alone.
use Rattle.std.specs.Prelude.{◌≡◌, ℕ, ◌+◌, ◌-◌, ◌*◌, ◌<◌, ◌≤◌, Bool, true, false, List, [], ◌∷◌}
use Rattle.std.specs.Prelude.{length, take, drop, count_by, if◌then◌else◌, ◌==◌}
use Rattle.std.specs.List.{AllByRecursion}
use Rattle.order_laws.specs.declared.items.Item.{Item}
use Rattle.order_laws.specs.Orders.{Order}
use Rattle.table_updates.specs.declared.updates.Update.{Update}
use Rattle.latch_core.specs.Histories.{current_table}
use Rattle.latch_steps.specs.declared.events.Event.{Event}
use Rattle.latch_steps.specs.declared.events.Event.TheVariants.{Start, Read}
use Rattle.latch_steps.specs.declared.replies.Reply.{Reply}
use Rattle.latch_steps.specs.declared.replies.Reply.TheVariants.{Wrote, Started, Loaded}
use Rattle.latch_steps.specs.declared.replies.Reply.TheVariants.{Returned as ReturnedReply}
use Rattle.latch_steps.specs.Runs.{Done, history}

-- whether the writer made a step
abbrev pub is_step : {K : Type 0} → Reply K → Bool
is_step (Wrote s) = true
is_step _ = false

-- and whether it was a flip
abbrev pub is_flip : {K : Type 0} → Reply K → Bool
is_flip (Wrote s) = s.word == 0
is_flip _ = false

-- a run up to the writer's next step: refusals, accepted updates and any reader's steps may be
-- in it
abbrev pub up_to_next_step : {K : Type 0} → List (Done K) → List (Done K)
up_to_next_step [] = []
up_to_next_step (d ∷ run) = if is_step d.reply then [] else d ∷ up_to_next_step run

-- whether an event is a load of this reader
abbrev pub is_load_of : {K : Type 0} → ℕ → Event K → Bool
is_load_of r (Read q) = q == r
is_load_of r _ = false

-- the replies to one reader's loads
abbrev pub replies_to : {K : Type 0} → ℕ → List (Done K) → List (Reply K)
replies_to r [] = []
replies_to r (d ∷ run) =
    if is_load_of r d.event then d.reply ∷ replies_to r run else replies_to r run

-- These replies to a reader's loads lead on to its return at the first attempt, with the last of at
-- most `most` loads. The replies may end before it.
abbrev pub ReturnsWithin : {K : Type 0} → ℕ → List (Reply K) → Type 0
ReturnsWithin most [] = Unit {0}
ReturnsWithin most (Loaded ∷ rest) = (1 < most) × ReturnsWithin (most - 1) rest
ReturnsWithin most (ReturnedReply x ∷ rest) = x.attempts ≡ 1
ReturnsWithin most (_ ∷ rest) = ⊥

-- a lookup that was started returns so, within `most` loads, if the writer makes no step before
abbrev pub ReturnsFromStart : {K : Type 0} → ℕ → Event K → Reply K → List (Done K) → Type 0
ReturnsFromStart most (Start r k) Started rest =
    ReturnsWithin most (replies_to r (up_to_next_step rest))
ReturnsFromStart most _ _ rest = Unit {0}

-- four for each item of a table, and three
abbrev pub most_loads : List Item → ℕ
most_loads table = 4 * length table + 3

-- each lookup of the run returns so, within these loads of the current table at its start
abbrev pub AreUndisturbed : {K : Type 0} → Order K → ℕ → List Update → List (Done K) → Type 0
AreUndisturbed o start us [] = Unit {0}
AreUndisturbed o start us (d ∷ rest) =
    ReturnsFromStart
    (most_loads (current_table o start us d.after.latch.words)) d.event d.reply rest
    × AreUndisturbed o start us rest

-- how many flips there were after event number i, up to and with event number j
abbrev pub flips_between : {K : Type 0} → List (Done K) → ℕ → ℕ → ℕ
flips_between run i j = count_by (λ d. is_flip d.reply) (take (j - i) (drop i run))

-- a lookup tries again at most once for each flip between its start and its last load
abbrev pub IsPatientReply : {K : Type 0} → List (Done K) → Reply K → Type 0
IsPatientReply run (ReturnedReply x) = x.attempts ≤ 1 + flips_between run x.first x.last
IsPatientReply run _ = Unit {0}

-- both, of a whole run
pub record IsQuiet {K : Type 0} (o : Order K) (start : ℕ) (run : List (Done K)) : Type 0 where
  pub undisturbed : AreUndisturbed o start (history run) run
  pub patient : AllByRecursion (λ d. IsPatientReply run d.reply) run
