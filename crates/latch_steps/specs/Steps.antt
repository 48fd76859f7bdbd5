-- Which single steps there are: a begin, one store of the writer, a start, one load of a reader.
use Rattle.std.specs.Prelude.{◌≡◌, ℕ, ◌+◌, ◌<◌, ◌≤◌, List, [], ◌∷◌, ◌++◌, min, Option, Some, None}
use Rattle.std.specs.Ordering.{nat_cmp}
use Rattle.std.specs.FinMap.{FinMap, get, insert, remove}
use Rattle.table_updates.specs.declared.updates.Update.{Update}
use Rattle.order_laws.specs.declared.items.Item.{Item}
use Rattle.order_laws.specs.declared.refusals.Refusal.{Refusal}
use Rattle.order_laws.specs.declared.refusals.Refusal.TheVariants.{ReaderBusy, ReaderIdle}
use Rattle.word_layout.specs.declared.layouts.Layout.{Layout}
use Rattle.word_layout.specs.declared.stores.Store.{Store}
use Rattle.latch_steps.specs.declared.events.Event.{Event}
use Rattle.latch_steps.specs.declared.events.Event.TheVariants.{Begin, Write, Start, Read}
use Rattle.latch_steps.specs.declared.replies.Returned.{Returned}
use Rattle.latch_steps.specs.declared.replies.Reply.{Reply}
use Rattle.latch_steps.specs.declared.replies.Reply.TheVariants.{Begun, Wrote, Idle, Started}
use Rattle.latch_steps.specs.declared.replies.Reply.TheVariants.{Loaded, Retried}
use Rattle.latch_steps.specs.declared.replies.Reply.TheVariants.{Returned as ReturnedReply, Refused}
use Rattle.order_laws.specs.Orders.{Order}
use Rattle.table_updates.specs.Updates.{most_steps}
use Rattle.latch_core.specs.Writers.{latch_refusal}
use Rattle.word_layout.specs.Layouts.{capacity_of, limit_of}
use Rattle.word_layout.specs.Words.{at}
use Rattle.latch_core.specs.Attempts.{Answer, Again, Reading, Load, Ends, attempt, rest_after}
use Rattle.latch_core.specs.Latches.{PendingUpdate, Latch, IsWriterStep, latch_after_step}
use Rattle.latch_core.specs.Latches.{latch_with_update}
use Rattle.latch_steps.specs.Runs.{PendingLookup, Moment, Done}

-- a step machine: the order of its items, how many nodes it has, and its greatest sequence
pub record Machine (K : Type 0) : Type 0 where
  pub order : Order K
  pub capacity : ℕ
  pub limit : ℕ

abbrev pub machine : {K : Type 0} → Order K → ℕ → ℕ → Machine K
machine o capacity limit = record { order = o; capacity = capacity; limit = limit }

-- the machine of an order and a layout
abbrev pub machine_of : {K : Type 0} → Order K → Layout → Machine K
machine_of o l = machine o (capacity_of l) (limit_of l)

-- counts stay at the greatest
abbrev pub counted_up : ℕ → ℕ
counted_up count = min (count + 1) 18446744073709551615

-- after one event more, with nothing else changed
abbrev pub with_event : {K : Type 0} → Moment K → Moment K
with_event w = record w { events = counted_up w.events }

-- and with another latch
abbrev pub with_latch : {K : Type 0} → Moment K → Latch → Moment K
with_latch w l = record w { latch = l; events = counted_up w.events }

-- and with other pending lookups
abbrev pub with_lookups : {K : Type 0} → Moment K → FinMap nat_cmp (PendingLookup K) → Moment K
with_lookups w ls = record w { lookups = ls; events = counted_up w.events }

-- A begin: an update is accepted or refused; how many steps an accepted one takes is the writer's
-- choice, within a bound
abbrev pub IsBegin :
    {K : Type 0} → Order K → ℕ → Moment K → Update → Option Refusal → Reply K → Moment K → Type 0
IsBegin o n w u (Some why) reply w' = (reply ≡ Refused why) × (w' ≡ with_event w)
IsBegin o n w u None reply w' =
    (left : ℕ) × (0 < left) × (left ≤ most_steps n u)
    × (reply ≡ Begun left) × (w' ≡ with_latch w (latch_with_update o w.latch u left))

-- A write: idle with no pending update, else one writer step
abbrev pub IsWrite : {K : Type 0} → ℕ → Moment K → Option PendingUpdate → Reply K → Moment K
    → Type 0
IsWrite n w None reply w' = (reply ≡ Idle) × (w' ≡ with_event w)
IsWrite n w (Some h) reply w' =
    (s : Store) × IsWriterStep n w.latch h s
    × (reply ≡ Wrote s) × (w' ≡ with_latch w (latch_after_step w.latch h s))

-- a lookup that has loaded nothing
abbrev pub new_lookup : {K : Type 0} → K → ℕ → PendingLookup K
new_lookup k first = record { key = k; first = first; loads = 0; attempts = 1; values = [] }

-- A start: refused if the reader has a pending lookup; else it has a new one
abbrev pub start_done :
    {K : Type 0} → Moment K → ℕ → K → Option (PendingLookup K) → Reply K × Moment K
start_done w r k (Some l) = (Refused ReaderBusy, with_event w)
start_done w r k None =
    (Started, with_lookups w (insert w.lookups r (new_lookup k (counted_up w.events))))

-- a lookup after one load more: with its value, before its next attempt, or as it returns
abbrev pub with_value : {K : Type 0} → PendingLookup K → ℕ → PendingLookup K
with_value l value = record l { loads = counted_up l.loads; values = l.values ++ value ∷ [] }

abbrev pub next_attempt : {K : Type 0} → PendingLookup K → PendingLookup K
next_attempt l =
    record l { loads = counted_up l.loads; attempts = counted_up l.attempts; values = [] }

abbrev pub return_of : {K : Type 0} → Moment K → ℕ → PendingLookup K → Option Item → ℕ → Returned K
return_of w r l x g =
    record {
      reader = r;
      key = l.key;
      answer = x;
      generation = g;
      first = l.first;
      last = counted_up w.events;
      loads = counted_up l.loads;
      attempts = l.attempts;
    }

-- what a load leads to: the attempt goes on, or has to be made again, or the lookup returns
pub data AfterLoad (K : Type 0) : Type 0 where
  Goes : PendingLookup K → AfterLoad K
  Retries : PendingLookup K → AfterLoad K
  Returns : Returned K → AfterLoad K

-- by what is left of the attempt with the value
abbrev pub after_value : {K : Type 0} → Moment K → ℕ → PendingLookup K → ℕ → Reading → AfterLoad K
after_value w r l value (Load word go) = Goes (with_value l value)
after_value w r l value (Ends Again) = Retries (next_attempt l)
after_value w r l value (Ends (Answer x g)) = Returns (return_of w r l x g)

-- the reader loads the word that its attempt asks for next; no lookup of a run is at its attempt's
-- end
abbrev pub load_left : {K : Type 0} → Moment K → ℕ → PendingLookup K → Option Reading → AfterLoad K
load_left w r l (Some (Load word go)) =
    let value = at w.latch.words word in after_value w r l value (go value)
load_left w r l _ = Retries (next_attempt l)

abbrev pub after_load : {K : Type 0} → Order K → ℕ → Moment K → ℕ → PendingLookup K → AfterLoad K
after_load o n w r l = load_left w r l (rest_after (attempt o n l.key) l.values)

-- the reply to a load, and the moment after it
abbrev pub load_done : {K : Type 0} → Moment K → ℕ → AfterLoad K → Reply K × Moment K
load_done w r (Goes l) = (Loaded, with_lookups w (insert w.lookups r l))
load_done w r (Retries l) = (Retried, with_lookups w (insert w.lookups r l))
load_done w r (Returns x) = (ReturnedReply x, with_lookups w (remove w.lookups r))

-- A read: refused if the reader has no pending lookup; else one load
abbrev pub read_done :
    {K : Type 0} → Order K → ℕ → Moment K → ℕ → Option (PendingLookup K) → Reply K × Moment K
read_done o n w r None = (Refused ReaderIdle, with_event w)
read_done o n w r (Some l) = load_done w r (after_load o n w r l)

-- why an update is refused at a latch, or none
abbrev pub refusal_of : {K : Type 0} → Machine K → Latch → Update → Option Refusal
refusal_of m l u = latch_refusal m.order m.capacity m.limit l u

-- One event leads from a moment to another, with this reply. A start and a load are determined; how
-- many steps an update takes and what they are is the writer's choice.
abbrev pub Step : {K : Type 0} → Machine K → Moment K → Event K → Reply K → Moment K → Type 0
Step m w (Begin u) reply w' = IsBegin m.order m.capacity w u (refusal_of m w.latch u) reply w'
Step m w Write reply w' = IsWrite m.capacity w w.latch.pending reply w'
Step m w (Start r k) reply w' = start_done w r k (get w.lookups r) ≡ (reply, w')
Step m w (Read r) reply w' = read_done m.order m.capacity w r (get w.lookups r) ≡ (reply, w')

-- each step of a run leads on from the moment before it
abbrev pub Run : {K : Type 0} → Machine K → Moment K → List (Done K) → Type 0
Run m w [] = Unit {0}
Run m w (d ∷ run) = Step m w d.event d.reply d.after × Run m d.after run
