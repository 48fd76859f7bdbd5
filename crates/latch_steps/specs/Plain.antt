-- Plain runs: each update is ended at once, and each lookup read to its end at once.
use Rattle.std.specs.Prelude.{◌≡◌, ℕ, ◌+◌, ◌≤◌, List, [], ◌∷◌, ◌++◌, length, true, is_some}
use Rattle.std.specs.FinMap.{get}
use Rattle.order_laws.specs.declared.items.Item.{Item}
use Rattle.order_laws.specs.Orders.{Order}
use Rattle.order_laws.specs.Tables.{look}
use Rattle.table_updates.specs.declared.updates.Update.{Update}
use Rattle.latch_core.specs.Sequences.{generation_of}
use Rattle.table_updates.specs.Updates.{replay}
use Rattle.latch_steps.specs.declared.commands.Command.{Command}
use Rattle.latch_steps.specs.declared.events.Event.{Event}
use Rattle.latch_steps.specs.declared.events.Event.TheVariants.{Write, Read}
use Rattle.latch_steps.specs.declared.replies.Returned.{Returned}
use Rattle.latch_steps.specs.declared.replies.Reply.{Reply}
use Rattle.latch_steps.specs.declared.replies.Reply.TheVariants.{Returned as ReturnedReply}
use Rattle.latch_steps.specs.Runs.{Moment, Done, accepted}
use Rattle.latch_steps.specs.Quiet.{most_loads}
use Rattle.latch_steps.specs.Expands.{event_of, IsPartAndRest}

-- while an update is pending only the writer steps, and while a reader has a pending lookup only it
pub record IsPlainEvent {K : Type 0} (w : Moment K) (e : Event K) : Type 0 where
  pub writer : is_some w.latch.pending ≡ true → e ≡ Write
  pub readers : (r : ℕ) → is_some (get w.lookups r) ≡ true → e ≡ Read r

-- so it is at each event of a run from a moment
abbrev pub IsPlain : {K : Type 0} → Moment K → List (Done K) → Type 0
IsPlain w [] = Unit {0}
IsPlain w (d ∷ run) = IsPlainEvent w d.event × IsPlain d.after run

-- and at each command, whose part of the run is plain then: an update that is accepted is followed
-- by writes up to its end, and a start by reads of its reader that end the lookup
abbrev pub ArePlain : {K : Type 0} → Moment K → List (Command K) → List (Done K) → Type 0
ArePlain w [] run = run ≡ []
ArePlain w (c ∷ cs) run =
    IsPlainEvent w (event_of c) × IsPartAndRest w c (λ v rest. ArePlain v cs rest) run

-- a lookup gives what its key finds in this table, with this generation, at its first attempt and
-- within four loads for each item and three
pub record IsLookIn {K : Type 0} (o : Order K) (table : List Item) (g : ℕ) (x : Returned K)
    : Type 0 where
  pub answer : x.answer ≡ look o x.key table
  pub generation : x.generation ≡ g
  pub attempts : x.attempts ≡ 1
  pub loads : x.loads ≤ most_loads table

-- and in the table after these updates, with their generation
abbrev pub IsLookAfter : {K : Type 0} → Order K → ℕ → List Update → Returned K → Type 0
IsLookAfter o start us x = IsLookIn o (replay o [] us) (generation_of start + length us) x

-- nothing is said of other replies
abbrev pub IsLookReply : {K : Type 0} → Order K → ℕ → List Update → Reply K → Type 0
IsLookReply o start us (ReturnedReply x) = IsLookAfter o start us x
IsLookReply o start us _ = Unit {0}

-- each lookup that returned is so after all updates that were accepted before it
abbrev pub AreLooksAfter : {K : Type 0} → Order K → ℕ → List Update → List (Done K) → Type 0
AreLooksAfter o start us [] = Unit {0}
AreLooksAfter o start us (d ∷ run) =
    IsLookReply o start us d.reply × AreLooksAfter o start (us ++ accepted d.event d.reply) run
