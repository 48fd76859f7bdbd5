-- What is promised of a trace, and of every run: each word has the run inside.
use Rattle.std.specs.Prelude.{◌≡◌, ℕ, ◌<◌, ◌^◌, List, [], length}
use Rattle.order_laws.specs.Orders.{Order}
use Rattle.word_layout.specs.declared.layouts.Layout.{Layout}
use Rattle.word_layout.specs.Layouts.{capacity_of}
use Rattle.latch_core.specs.Sequences.{stable_copy_of}
use Rattle.latch_steps.specs.declared.commands.Command.{Command}
use Rattle.latch_steps.specs.declared.traces.Trace.{Trace}
use Rattle.latch_steps.specs.declared.replies.Note.{Note}
use Rattle.latch_steps.specs.Runs.{Done, history, opening}
use Rattle.latch_steps.specs.Steps.{machine, Run}
use Rattle.latch_steps.specs.Safe.{IsSafe}
use Rattle.latch_steps.specs.Memory.{IsRemembered}
use Rattle.latch_steps.specs.Quiet.{IsQuiet}
use Rattle.latch_steps.specs.Near.{AreNear}
use Rattle.latch_steps.specs.Plain.{IsPlain, ArePlain, AreLooksAfter}
use Rattle.latch_steps.specs.Expands.{Expand}
use Rattle.latch_steps.specs.Traces.{IsTraceOf, AreNotesOf}

-- some run from the opening has this trace
abbrev pub IsTrace : {O K : Type 0} → Order K → Layout → ℕ → Trace O K → Type 0
IsTrace {O} {K} o l start t = (run : List (Done K)) × IsTraceOf o l start t run

-- some run that carries out these commands has it
abbrev pub IsTraceOfCommands :
    {O K : Type 0} → Order K → Layout → ℕ → List (Command K) → Trace O K → Type 0
IsTraceOfCommands {O} {K} o l start commands t =
    (run : List (Done K)) × IsTraceOf o l start t run
    × Expand (opening (capacity_of l) start) commands run

-- whatever run has this trace, each lookup of it that returned is right
abbrev pub IsSafeTrace : {O K : Type 0} → Order K → Layout → ℕ → Trace O K → Type 0
IsSafeTrace {O} {K} o l start t =
    (run : List (Done K)) → IsTraceOf o l start t run → IsSafe o (capacity_of l) start run

-- whatever run has this trace, each lookup of it that the writer leaves alone returns at its first
-- attempt, within 4n + 3 loads
abbrev pub IsQuietTrace : {O K : Type 0} → Order K → Layout → ℕ → Trace O K → Type 0
IsQuietTrace {O} {K} o l start t =
    (run : List (Done K)) → IsTraceOf o l start t run → IsQuiet o start run

-- and some run has it in which these lookups return within 4d + 3 loads, for 2^d at most the
-- square of n + 1
abbrev pub IsNearTrace : {O K : Type 0} → Order K → Layout → ℕ → Trace O K → Type 0
IsNearTrace {O} {K} o l start t =
    (run : List (Done K)) × IsTraceOf o l start t run × AreNear o start (history run) run

-- if updates and lookups come one after another, each lookup that returned is right in the table
-- after all updates accepted before it
abbrev pub IsExactWherePlain : {K : Type 0} → Order K → ℕ → ℕ → List (Done K) → Type 0
IsExactWherePlain o n start run = IsPlain (opening n start) run → AreLooksAfter o start [] run

-- some run that carries out these commands has these notes and this last sequence, is safe and
-- quiet, and its lookups that the writer leaves alone return so; and it is exact if it is plain
pub record AreNotesOfCommands {K : Type 0} (o : Order K) (l : Layout) (start : ℕ)
    (commands : List (Command K)) (noted : List (Note K)) (last : ℕ) : Type 0 where
  pub run : List (Done K)
  pub notes : AreNotesOf o l start noted last run
  pub expands : Expand (opening (capacity_of l) start) commands run
  pub safe : IsSafe o (capacity_of l) start run
  pub quiet : IsQuiet o start run
  pub near : AreNear o start (history run) run
  pub plain : IsExactWherePlain o (capacity_of l) start run

-- this is so of every run from an even sequence, of fewer than 2^64 steps, at any capacity and
-- limit
abbrev pub AllRunsAre : {K : Type 0} → Order K → (ℕ → ℕ → List (Done K) → Type 0) → Type 0
AllRunsAre {K} o Right =
    (n limit start : ℕ) (run : List (Done K)) → stable_copy_of start ≡ 0 → length run < 2 ^ 64
    → Run (machine o n limit) (opening n start) run → Right n start run

-- every such run is safe
abbrev pub AllRunsAreSafe : {K : Type 0} → Order K → Type 0
AllRunsAreSafe o = AllRunsAre o (λ n start run. IsSafe o n start run)

-- and remembered: what a lookup returned answers by one load while its generation is current
abbrev pub AllRunsAreRemembered : {K : Type 0} → Order K → Type 0
AllRunsAreRemembered o = AllRunsAre o (λ n start run. IsRemembered o n start run)

-- and quiet
abbrev pub AllRunsAreQuiet : {K : Type 0} → Order K → Type 0
AllRunsAreQuiet o = AllRunsAre o (λ n start run. IsQuiet o start run)

-- and every run from an even sequence, however long, is exact if it is plain
abbrev pub AllPlainRunsAreExact : {K : Type 0} → Order K → Type 0
AllPlainRunsAreExact {K} o =
    (n limit start : ℕ) (run : List (Done K)) → stable_copy_of start ≡ 0
    → Run (machine o n limit) (opening n start) run → IsExactWherePlain o n start run

-- whatever run carries out plain commands is plain
abbrev pub PlainCommandsRunPlainly : {K : Type 0} → Order K → Type 0
PlainCommandsRunPlainly {K} o =
    (n limit start : ℕ) (commands : List (Command K)) (run : List (Done K))
    → Run (machine o n limit) (opening n start) run → ArePlain (opening n start) commands run
    → IsPlain (opening n start) run
