-- What a lookup that returned gives.
use Rattle.std.specs.Prelude.{◌≡◌, ℕ, ◌≤◌, List, length}
use Rattle.std.specs.List.{AllByRecursion}
use Rattle.order_laws.specs.Orders.{Order}
use Rattle.order_laws.specs.Tables.{look}
use Rattle.word_layout.specs.Words.{at}
use Rattle.latch_core.specs.Sequences.{generation_of}
use Rattle.latch_core.specs.Histories.{current_table}
use Rattle.latch_steps.specs.declared.replies.Returned.{Returned}
use Rattle.latch_steps.specs.declared.replies.Reply.{Reply}
use Rattle.latch_steps.specs.declared.replies.Reply.TheVariants.{Returned as ReturnedReply}
use Rattle.latch_steps.specs.Runs.{Done, opening, history, moment_at}

-- a lookup that returned gives what was current after some events of a run from the opening, no
-- fewer than those up to its start and no more than those up to its last load. The history is that
-- of the whole run: the current table at a moment is made by the first of its updates, as many as
-- word 0 names then.
pub record IsCurrent {K : Type 0} (o : Order K) (n start : ℕ) (run : List (Done K))
    (x : Returned K) : Type 0 where
  pub events : ℕ
  pub not_before : x.first ≤ events
  pub not_after : events ≤ x.last
  pub in_run : events ≤ length run
  pub generation_is :
      x.generation ≡ generation_of (at (moment_at (opening n start) run events).latch.words 0)
  pub answer_is :
      x.answer
      ≡ look o x.key
      (current_table o start (history run) (moment_at (opening n start) run events).latch.words)

-- nothing is said of other replies
abbrev pub IsSafeReply : {K : Type 0} → Order K → ℕ → ℕ → List (Done K) → Reply K → Type 0
IsSafeReply o n start run (ReturnedReply x) = IsCurrent o n start run x
IsSafeReply o n start run _ = Unit {0}

-- every lookup that returned is right
abbrev pub IsSafe : {K : Type 0} → Order K → ℕ → ℕ → List (Done K) → Type 0
IsSafe o n start run = AllByRecursion (λ d. IsSafeReply o n start run d.reply) run
