-- The events that a list of commands means.
use Rattle.std.specs.Prelude.{◌≡◌, ℕ, ◌-◌, ◌<◌, Bool, true, false, ◌||◌, List, [], ◌∷◌, ◌++◌}
use Rattle.std.specs.Prelude.{Option, Some, None, is_none, if◌then◌else◌}
use Rattle.std.specs.FinMap.{get}
use Rattle.latch_steps.specs.declared.events.Event.{Event}
use Rattle.latch_steps.specs.declared.events.Event.TheVariants.{Begin, Write, Start, Read}
use Rattle.latch_steps.specs.declared.commands.Command.{Command}
use Rattle.latch_steps.specs.declared.commands.Command.TheVariants.{Begin as BeginCommand}
use Rattle.latch_steps.specs.declared.commands.Command.TheVariants.{Write as WriteCommand}
use Rattle.latch_steps.specs.declared.commands.Command.TheVariants.{WriteFlip, WriteEnd}
use Rattle.latch_steps.specs.declared.commands.Command.TheVariants.{Start as StartCommand}
use Rattle.latch_steps.specs.declared.commands.Command.TheVariants.{Read as ReadCommand}
use Rattle.latch_steps.specs.declared.replies.Reply.{Reply}
use Rattle.latch_steps.specs.declared.replies.Reply.TheVariants.{Returned as ReturnedReply}
use Rattle.latch_core.specs.Latches.{PendingUpdate}
use Rattle.latch_steps.specs.Runs.{PendingLookup, Moment, Done, last_of}
use Rattle.latch_steps.specs.Quiet.{is_flip}

-- a command repeats one event
abbrev pub event_of : {K : Type 0} → Command K → Event K
event_of (BeginCommand u) = Begin u
event_of (WriteCommand most) = Write
event_of WriteFlip = Write
event_of WriteEnd = Write
event_of (StartCommand r k) = Start r k
event_of (ReadCommand r most) = Read r

-- with no pending update the writer makes no step; with a pending update it has its steps left
abbrev pub writes_within : Option PendingUpdate → ℕ → ℕ
writes_within None most = 0
writes_within (Some h) most = most

abbrev pub writes_left : Option PendingUpdate → ℕ
writes_left None = 0
writes_left (Some h) = h.steps_left

-- a reader without a pending lookup is refused once
abbrev pub reads_within : {K : Type 0} → Option (PendingLookup K) → ℕ → ℕ
reads_within None most = 1
reads_within (Some l) most = most

-- how often it repeats the event at most, from a moment
abbrev pub most_of : {K : Type 0} → Moment K → Command K → ℕ
most_of w (BeginCommand u) = 1
most_of w (WriteCommand most) = writes_within w.latch.pending most
most_of w WriteFlip = writes_left w.latch.pending
most_of w WriteEnd = writes_left w.latch.pending
most_of w (StartCommand r k) = 1
most_of w (ReadCommand r most) = reads_within (get w.lookups r) most

-- a lookup returned
abbrev pub is_return : {K : Type 0} → Reply K → Bool
is_return (ReturnedReply x) = true
is_return _ = false

-- whether this reply, with the moment after it, ends the command before that
abbrev pub ends : {K : Type 0} → Command K → Reply K → Moment K → Bool
ends (WriteCommand most) reply w = is_none w.latch.pending
ends WriteFlip reply w = is_flip reply || is_none w.latch.pending
ends WriteEnd reply w = is_none w.latch.pending
ends (ReadCommand r most) reply w = is_return reply
ends _ reply w = false

-- the command's event again and again, up to the first that ends it, or `turns` times if that takes
-- more
abbrev pub Repeats : {K : Type 0} → Command K → ℕ → List (Done K) → Type 0
Repeats c most [] = most ≡ 0
Repeats c most (d ∷ run) =
    (0 < most) × (d.event ≡ event_of c)
    × Repeats c (if ends c d.reply d.after then 0 else most - 1) run

-- a run from a moment is a part that repeats a command's event as the command says, and a rest
pub record IsPartAndRest {K : Type 0} (w : Moment K) (c : Command K)
    (IsRest : Moment K → List (Done K) → Type 0) (run : List (Done K)) : Type 0 where
  pub part : List (Done K)
  pub rest : List (Done K)
  pub whole : run ≡ part ++ rest
  pub repeats : Repeats c (most_of w c) part
  pub goes_on : IsRest (last_of w part) rest

-- one part of the run for each command
abbrev pub Expand : {K : Type 0} → Moment K → List (Command K) → List (Done K) → Type 0
Expand w [] run = run ≡ []
Expand w (c ∷ cs) run = IsPartAndRest w c (λ v rest. Expand v cs rest) run
