-- Whether the item that a lookup returned is still right, by one load of word 0.
use Rattle.std.specs.Prelude.{◌≡◌, ℕ, ◌≤◌, List, length, Some}
use Rattle.std.specs.List.{AllByRecursion}
use Rattle.std.specs.declared.cmp.Ordering.TheVariants.{Equal}
use Rattle.order_laws.specs.declared.items.Item.{Item}
use Rattle.order_laws.specs.Orders.{Order}
use Rattle.order_laws.specs.Tables.{look}
use Rattle.word_layout.specs.Words.{at}
use Rattle.latch_core.specs.Sequences.{generation_of}
use Rattle.latch_core.specs.Histories.{current_table}
use Rattle.latch_steps.specs.declared.replies.Returned.{Returned}
use Rattle.latch_steps.specs.declared.replies.Reply.{Reply}
use Rattle.latch_steps.specs.declared.replies.Reply.TheVariants.{Returned as ReturnedReply}
use Rattle.latch_steps.specs.Runs.{Moment, Done, opening, history, moment_at}

-- an item answers for each key that lies in it: it is the look in the table that is current at this
-- moment
abbrev pub IsStillFound : {K : Type 0} → Order K → ℕ → List (Done K) → Moment K → Item → Type 0
IsStillFound {K} o start run w i =
    (k : K) → o.comp k i ≡ Equal
    → Some i ≡ look o k (current_table o start (history run) w.latch.words)

-- so it is of the item that a lookup returned, at each moment of the run at which a load of word 0
-- gives the generation of that lookup again
abbrev pub AnswersFromMemory : {K : Type 0} → Order K → ℕ → ℕ → List (Done K) → Returned K → Type 0
AnswersFromMemory o n start run x =
    (i : Item) (events : ℕ) → x.answer ≡ Some i → events ≤ length run
    → generation_of (at (moment_at (opening n start) run events).latch.words 0) ≡ x.generation
    → IsStillFound o start run (moment_at (opening n start) run events) i

-- nothing is said of other replies
abbrev pub IsRememberedReply : {K : Type 0} → Order K → ℕ → ℕ → List (Done K) → Reply K → Type 0
IsRememberedReply o n start run (ReturnedReply x) = AnswersFromMemory o n start run x
IsRememberedReply o n start run _ = Unit {0}

-- every lookup that returned may be remembered
abbrev pub IsRemembered : {K : Type 0} → Order K → ℕ → ℕ → List (Done K) → Type 0
IsRemembered o n start run = AllByRecursion (λ d. IsRememberedReply o n start run d.reply) run
