-- What is written for a trace whose steps are asked for.
use Rattle.std.specs.Prelude.{◌≡◌, ◌≢◌, ◌⊎◌, ℕ, List, [], ◌∷◌, ◌++◌, Option, Result, Ok, IfSome}
use Rattle.std.specs.Prelude.{true, Err}
use Rattle.texts.specs.declared.counted.Counted.{Counted}
use Rattle.texts.specs.Counted.{device_of}
use Rattle.texts.specs.declared.output.Output.{Output}
use Rattle.texts.specs.Output.{Delivered, Says, has_failed}
use Rattle.run_files.specs.declared.command_lines.NumberedCommand.{NumberedCommand}
use Rattle.run_files.specs.Trace.{Contents, command_lines}
use Rattle.order_laws.specs.Orders.{Order}
use Rattle.latch_steps.specs.declared.commands.Command.{Command}
use Rattle.latch_steps.specs.Expands.{Repeats, most_of}
use Rattle.latch_steps.specs.Runs.{Done, Moment, last_of, opening}
use Rattle.latch_steps.specs.Steps.{Run, machine}
use Rattle.command_traces.specs.StepTexts.{opening_text, steps_text, event_text}
use Rattle.command_traces.specs.Traces.{commands_of, numbers_of, AnswersReadBy, AnswersSaidBy}
use Rattle.command_traces.specs.Traces.{HeaderMayOpen, IsTextOf, greatest_of, order_by, AreTaken}
use Rattle.command_parts.specs.declared.fault.Fault.{Fault}
use Rattle.order_laws.specs.declared.refusals.Refusal.TheVariants as refusal
use Rattle.word_layout.specs.Layouts.{capacity_of, limit_of}
use Rattle.latch_steps.specs.declared.events.Event.{Event}
use Rattle.latch_steps.specs.declared.reports.Outcome.{Outcome}
use Rattle.latch_steps.specs.declared.worlds.World.{World}
use Rattle.latch_steps.specs.Worlds.{RepresentsMoment, layout_in, machine_in}
use Rattle.run_files.specs.declared.header.Header.{Header}
use Rattle.run_files.specs.CommandLines.{LinesLeft}
use Rattle.command_parts.specs.declared.fault.Fault.TheVariants.{Refused, BadLine, Write}

-- a run from a moment, and its text, consist of a part that a command asks for, and of a rest
pub record IsPartTold (o : Order ℕ) (n : ℕ) (w : Moment ℕ) (c : NumberedCommand)
    (IsRest : Moment ℕ → List (Done ℕ) → List ℕ → Type 0) (run : List (Done ℕ)) (text : List ℕ)
    : Type 0 where
  pub part : List (Done ℕ)
  pub rest : List (Done ℕ)
  pub rest_text : List ℕ
  pub whole : run ≡ part ++ rest
  pub told : text ≡ steps_text o n c.line w part ++ rest_text
  pub repeats : Repeats c.command (most_of w c.command) part
  pub goes_on : IsRest (last_of w part) rest rest_text

-- the run of these commands, and its text, a part for each
abbrev pub AreTold : Order ℕ → ℕ → Moment ℕ → List NumberedCommand → List (Done ℕ) → List ℕ
    → Type 0
AreTold o n w [] run text = (run ≡ []) × (text ≡ [])
AreTold o n w (c ∷ cs) run text =
    IsPartTold o n w c (λ v rest rest_text. AreTold o n v cs rest rest_text) run text

-- What some run of the first commands in this order writes, if these are left, with the numbers of
-- their lines: the opening, and the steps of each command. Whatever holds of all runs
-- (`every_run_is_safe` and the other laws of latch_steps) holds of it.
pub record IsFrontText (o : Order ℕ) (said : Contents) (lines : List ℕ) (left : List (Command ℕ))
    (left_lines written : List ℕ) : Type 0 where
  pub front : List NumberedCommand
  pub commands : commands_of front ++ left ≡ said.commands
  pub numbers : numbers_of front ++ left_lines ≡ lines
  pub run : List (Done ℕ)
  pub steps : Run (machine o said.header.capacity (greatest_of said.header.version))
      (opening said.header.capacity said.header.start) run
  pub text : List ℕ
  pub told : AreTold o said.header.capacity (opening said.header.capacity said.header.start) front
      run text
  pub whole : written ≡ opening_text said.header ++ text

-- what some run of all commands writes
abbrev pub IsStepsText : Contents → List ℕ → List ℕ → Type 0
IsStepsText said lines written =
    IsFrontText (order_by said.header.closed) said lines [] [] written

-- what is said of it until a call of the writer fails: the steps of its first commands, or of all
abbrev pub IsCutText : Contents → List ℕ → List ℕ → Type 0
IsCutText said lines written =
    (left : List (Command ℕ)) × (left_lines : List ℕ)
    × IsFrontText (order_by said.header.closed) said lines left left_lines written

-- what is written of it if memory ran out at a command: the steps of the commands before that
abbrev pub IsBegunText : Contents → List ℕ → List ℕ → Type 0
IsBegunText said lines written =
    (left : List (Command ℕ)) × (left_lines : List ℕ) × (left ≢ [])
    × IsFrontText (order_by said.header.closed) said lines left left_lines written

-- memory ran out before the first byte was written, or after such a text
abbrev pub StopsAfter : {W : Type 0} → (List ℕ → Type 0) → (W → Option (List ℕ))
    → Output W → Output W → Type 0
StopsAfter IsText contents w w' =
    (w' ≡ w)
    ⊎ ((text : List ℕ) × IsText text × Delivered contents w w' text)

-- a text of the commands before that at which memory ran out, if the lines of a trace say this
abbrev pub IsBegunOf : List ℕ → Result Contents ℕ → List ℕ → Type 0
IsBegunOf lines said text =
    (c : Contents) × (said ≡ Ok c) × HeaderMayOpen c.header × IsBegunText c lines text

-- what an engine returns that ran a trace whose lines say this and have these numbers, and wrote
-- each step as it was done
abbrev pub AnswersStepsSaid : {W : Type 0} → (W → Option (List ℕ)) → List ℕ → Result Contents ℕ
    → Output W → Output W → Result (Unit {0}) Fault → Type 0
AnswersStepsSaid contents lines said =
    AnswersSaidBy (λ c. IsStepsText c lines) (λ c. IsCutText c lines)
    (StopsAfter (IsBegunOf lines said) contents) contents said

-- and also read it
abbrev pub AnswersSteps : {R W : Type 0} → (R → Option (List ℕ)) → (W → Option (List ℕ))
    → Counted R → Counted R → Output W → Output W → Result (Unit {0}) Fault → Type 0
AnswersSteps remaining contents r =
    AnswersReadBy (IsTextOf (λ read said. IsStepsText said (command_lines read)))
    (IsTextOf (λ read said. IsCutText said (command_lines read)))
    (StopsAfter (λ text. IfSome (remaining (device_of r))
    (λ read. IsTextOf (λ bytes said. IsBegunText said (command_lines bytes)) read text)) contents)
    remaining contents r

-- ---- what the commands of a trace do that is run while its steps are written

-- a world has the empty table that a header asks for
pub record IsOpenedFor {O : Type 0} (o : Order ℕ) (h : Header) (world : World O ℕ) : Type 0 where
  pub opens : HeaderMayOpen h
  pub capacity : capacity_of (layout_in world) ≡ h.capacity
  pub limit : limit_of (layout_in world) ≡ greatest_of h.version
  pub shows : RepresentsMoment o world (opening h.capacity h.start)

-- the line of an event was written, for a command on this line of the trace
abbrev pub Tells : {W : Type 0} → (W → Option (List ℕ)) → ℕ → Output W → Event ℕ → Outcome ℕ
    → Output W → Type 0
Tells contents line a e outcome b = Says contents a b (event_text line e outcome)

-- commands were done one after another from a moment, and their steps were written
pub record AreCommandsTold {O W : Type 0} (o : Order ℕ) (contents : W → Option (List ℕ))
    (cs : List NumberedCommand) (old new : World O ℕ) (a b : Output W) (w : Moment ℕ)
    : Type 0 where
  pub run : List (Done ℕ)
  pub text : List ℕ
  pub layout : layout_in new ≡ layout_in old
  pub steps : Run (machine_in o old) w run
  pub shows : RepresentsMoment o new (last_of w run)
  pub told : AreTold o (capacity_of (layout_in old)) w cs run text
  pub said : Says contents a b text

-- so were commands that were taken from lines, from each moment that the world shows
pub record AreLinesTold {O W : Type 0} (o : Order ℕ) (contents : W → Option (List ℕ))
    (lines left : LinesLeft) (old new : World O ℕ) (a b : Output W) : Type 0 where
  pub front : List NumberedCommand
  pub taken : AreTaken lines front left
  pub told : (w : Moment ℕ) → RepresentsMoment o old w
      → AreCommandsTold o contents front old new a b w

-- all commands of lines
abbrev pub TellsLines : {O W : Type 0} → Order ℕ → (W → Option (List ℕ)) → LinesLeft → World O ℕ
    → Output W → Output W → Type 0
TellsLines {O} o contents lines old a b =
    (left : LinesLeft) × (new : World O ℕ) × (left.said ≡ Ok []) × (left.lines ≡ [])
    × AreLinesTold o contents lines left old new a b

-- Memory ran out at a command, and the commands before it were written; or the writer failed at
-- one, which was written, too; or a line is bad.
abbrev pub StopsTelling : {O W : Type 0} → Order ℕ → (W → Option (List ℕ)) → LinesLeft → World O ℕ
    → Output W → Output W → Fault → Type 0
StopsTelling {O} o contents lines old a b (Refused refusal.OutOfMemory) =
    (left : LinesLeft) × (new : World O ℕ) × (left.said ≢ Ok [])
    × AreLinesTold o contents lines left old new a b
StopsTelling {O} o contents lines old a b Write =
    (has_failed b ≡ true)
    × ((left : LinesLeft) × (new : World O ℕ) × AreLinesTold o contents lines left old new a b)
StopsTelling o contents lines old a b (BadLine place n) = (place ≡ 0) × (lines.said ≡ Err n)
StopsTelling o contents lines old a b _ = ⊥
