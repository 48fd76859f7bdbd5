-- What is written for a trace that is read.
use Rattle.std.specs.Prelude.{◌≡◌, ℕ, ◌%◌, ◌<◌, ◌≤◌, List, ◌++◌, Bool, true, false, Option, Result}
use Rattle.std.specs.Prelude.{Ok, Err, IfSome, flat_map, if◌then◌else◌, [], map, Some, None, ◌∷◌}
use Rattle.texts.specs.declared.counted.Counted.{Counted}
use Rattle.texts.specs.Counted.{NoneFailed, Rose, device_of, failures_of}
use Rattle.texts.specs.declared.output.Output.{Output}
use Rattle.texts.specs.Output.{Delivered, WrotePart, has_failed, Says}
use Rattle.order_laws.specs.Orders.{Order, closed, half_open}
use Rattle.order_laws.specs.declared.refusals.Refusal.{Refusal}
use Rattle.order_laws.specs.declared.refusals.Refusal.TheVariants.{BadCapacity, OutOfMemory}
use Rattle.word_layout.specs.Limits.{most_nodes, greatest_sequence, greatest_wide_sequence}
use Rattle.word_layout.specs.Words.{at}
use Rattle.latch_steps.specs.Runs.{Done, history, last_of, opening}
use Rattle.latch_steps.specs.Steps.{machine, Run}
use Rattle.latch_steps.specs.Traces.{notes_of}
use Rattle.latch_steps.specs.Expands.{Expand}
use Rattle.latch_steps.specs.Safe.{IsSafe}
use Rattle.latch_steps.specs.Quiet.{IsQuiet}
use Rattle.latch_steps.specs.Near.{AreNear}
use Rattle.latch_steps.specs.Promises.{IsExactWherePlain}
use Rattle.run_files.specs.declared.header.Header.{Header}
use Rattle.run_files.specs.declared.header.Version.{Version}
use Rattle.run_files.specs.Header.{is_wide}
use Rattle.run_files.specs.Trace.{Contents, trace_of}
use Rattle.command_traces.specs.TraceTexts.{end_text, note_text}
use Rattle.command_parts.specs.declared.fault.Fault.{Fault}
use Rattle.command_parts.specs.declared.fault.Fault.TheVariants.{Refused, BadLine, Read, Write}
use Rattle.latch_steps.specs.declared.commands.Command.{Command}
use Rattle.run_files.specs.declared.command_lines.NumberedCommand.{NumberedCommand}
use Rattle.run_files.specs.CommandLines.{IsTaken, LinesLeft}
use Rattle.texts.specs.Said.{entries_after}
use Rattle.word_layout.specs.declared.layouts.Layout.{Layout}
use Rattle.word_layout.specs.Layouts.{capacity_of, limit_of}
use Rattle.latch_steps.specs.declared.drivers.Driver.{Driver}
use Rattle.latch_steps.specs.declared.replies.Note.{Note}
use Rattle.latch_steps.specs.Drivers.{HasDriven, notes_in}

-- the greatest sequence of the tables that a trace of this version runs on
abbrev pub greatest_of : Version → ℕ
greatest_of version = if is_wide version then greatest_wide_sequence else greatest_sequence

-- a table is opened with at least one node and at most as many as a layout may have, at an even
-- sequence of at most the greatest of its version
pub record HeaderMayOpen (h : Header) : Type 0 where
  pub some : 0 < h.capacity
  pub most : h.capacity ≤ most_nodes
  pub even : h.start % 2 ≡ 0
  pub within : h.start ≤ greatest_of h.version

abbrev pub HeaderMayNotOpen : Header → Type 0
HeaderMayNotOpen h = ¬ HeaderMayOpen h

-- a header asks for a table, and none is opened
abbrev pub IsNotOpened : Header → Refusal → Type 0
IsNotOpened h OutOfMemory = Unit {0}
IsNotOpened h BadCapacity = HeaderMayNotOpen h
IsNotOpened h _ = ⊥

-- the order of items that a header names
abbrev pub order_by : Bool → Order ℕ
order_by true = closed
order_by false = half_open

-- what some run of these commands in this order writes: its notes and its last sequence. The run is
-- safe and quiet, its lookups that the writer leaves alone are as short as in a red-black tree, and
-- if it is plain each lookup is right in one table.
pub record IsRunText (o : Order ℕ) (said : Contents) (written : List ℕ) : Type 0 where
  pub run : List (Done ℕ)
  pub steps : Run (machine o said.header.capacity (greatest_of said.header.version))
      (opening said.header.capacity said.header.start) run
  pub expands : Expand (opening said.header.capacity said.header.start) said.commands run
  pub safe : IsSafe o said.header.capacity said.header.start run
  pub quiet : IsQuiet o said.header.start run
  pub near : AreNear o said.header.start (history run) run
  pub plain : IsExactWherePlain o said.header.capacity said.header.start run
  pub text : written
      ≡ flat_map note_text (notes_of run)
      ++ end_text (at (last_of (opening said.header.capacity said.header.start) run).latch.words 0)

-- so in the order that the header names
abbrev pub IsTraceRun : Contents → List ℕ → Type 0
IsTraceRun said written = IsRunText (order_by said.header.closed) said written

-- The bytes that are read and those that are written: the lines are a header and commands, and what
-- is written is the text of a run of these commands, as `IsRun` says.
pub record IsTextOf (IsRun : List ℕ → Contents → List ℕ → Type 0) (read written : List ℕ)
    : Type 0 where
  pub said : Contents
  pub reads : trace_of read ≡ Ok said
  pub opens : HeaderMayOpen said.header
  pub runs : IsRun read said written

-- the trace is in the grammar, and its header is such a one
pub record IsTraceWith (P : Header → Type 0) (read : List ℕ) : Type 0 where
  pub said : Contents
  pub reads : trace_of read ≡ Ok said
  pub header : P said.header

-- What an engine returns that was given what the lines of a trace say: `IsRun` says what a run
-- writes, `IsBegun` what is said of it until a call of the writer fails, and `IsRefused` what
-- became of the writer if memory ran out. A bad line leaves the writer as it was.
abbrev pub AnswersSaidBy : {W : Type 0} → (Contents → List ℕ → Type 0)
    → (Contents → List ℕ → Type 0) → (Output W → Output W → Type 0) → (W → Option (List ℕ))
    → Result Contents ℕ → Output W → Output W → Result (Unit {0}) Fault → Type 0
AnswersSaidBy IsRun IsBegun IsRefused contents said w w' (Ok _) =
    (c : Contents) × (said ≡ Ok c) × HeaderMayOpen c.header
    × ((text : List ℕ) × IsRun c text × Delivered contents w w' text)
AnswersSaidBy IsRun IsBegun IsRefused contents said w w' (Err (Refused OutOfMemory)) =
    IsRefused w w'
AnswersSaidBy IsRun IsBegun IsRefused contents said w w' (Err (Refused BadCapacity)) =
    (w' ≡ w) × ((c : Contents) × (said ≡ Ok c) × HeaderMayNotOpen c.header)
AnswersSaidBy IsRun IsBegun IsRefused contents said w w' (Err (BadLine place n)) =
    (w' ≡ w) × (place ≡ 0) × (said ≡ Err n)
AnswersSaidBy IsRun IsBegun IsRefused contents said w w' (Err Write) =
    (c : Contents) × (said ≡ Ok c) × HeaderMayOpen c.header
    × ((text : List ℕ) × IsBegun c text × WrotePart contents w w' text)
AnswersSaidBy IsRun IsBegun IsRefused contents said w w' (Err _) = ⊥

module _ {R W : Type 0} (IsText IsBegun : List ℕ → List ℕ → Type 0)
    (IsRefused : Output W → Output W → Type 0) (remaining : R → Option (List ℕ))
    (contents : W → Option (List ℕ)) where
  -- What an engine returns that also read the trace, if the bytes of the reader are known: `IsText`
  -- and `IsBegun` take them and those that are written. A bad line leaves the writer as it was.
  abbrev pub AnswersReadBy : Counted R → Counted R → Output W → Output W → Result (Unit {0}) Fault
      → Type 0
  AnswersReadBy r r' w w' (Ok _) =
      NoneFailed r r' × (has_failed w' ≡ false)
      × IfSome (remaining (device_of r)) (λ read. (text : List ℕ) × IsText read text
      × Delivered contents w w' text)
  AnswersReadBy r r' w w' (Err (Refused OutOfMemory)) =
      NoneFailed r r' × IsRefused w w'
  AnswersReadBy r r' w w' (Err (Refused BadCapacity)) =
      NoneFailed r r' × (w' ≡ w) × IfSome (remaining (device_of r)) (IsTraceWith HeaderMayNotOpen)
  AnswersReadBy r r' w w' (Err (Refused _)) = ⊥
  AnswersReadBy r r' w w' (Err (BadLine place n)) =
      NoneFailed r r' × (w' ≡ w) × (place ≡ 0)
      × IfSome (remaining (device_of r)) (λ read. trace_of read ≡ Err n)
  AnswersReadBy r r' w w' (Err (Read place)) =
      (w' ≡ w) × (place ≡ 0) × Rose (failures_of r) (failures_of r')
  AnswersReadBy r r' w w' (Err Write) =
      NoneFailed r r' × (has_failed w' ≡ true)
      × IfSome (remaining (device_of r)) (λ read. (text : List ℕ) × IsBegun read text
      × WrotePart contents w w' text)
  AnswersReadBy r r' w w' (Err _) = ⊥

-- every fault but a failed write leaves the writer as it was
abbrev pub Stays : {W : Type 0} → Output W → Output W → Type 0
Stays w w' = w' ≡ w

-- what an engine returns that ran a trace whose lines say this, and wrote its notes at the end
abbrev pub AnswersSaid : {W : Type 0} → (W → Option (List ℕ)) → Result Contents ℕ
    → Output W → Output W → Result (Unit {0}) Fault → Type 0
AnswersSaid contents = AnswersSaidBy IsTraceRun IsTraceRun Stays contents

-- and also read it
abbrev pub AnswersTrace : {R W : Type 0} → (R → Option (List ℕ)) → (W → Option (List ℕ))
    → Counted R → Counted R → Output W → Output W → Result (Unit {0}) Fault → Type 0
AnswersTrace remaining contents =
    AnswersReadBy (IsTextOf (λ read. IsTraceRun)) (IsTextOf (λ read. IsTraceRun)) Stays
    remaining contents

-- ---- the lines of a trace that are left, as the engines take commands from them

-- the commands of a list, and the numbers of their lines
abbrev pub commands_of : List NumberedCommand → List (Command ℕ)
commands_of cs = map (λ c. c.command) cs

abbrev pub numbers_of : List NumberedCommand → List ℕ
numbers_of cs = map (λ c. c.line) cs

-- the next command of lines, if there is one, was taken from them
abbrev pub IsNext : LinesLeft → LinesLeft → Option NumberedCommand → Type 0
IsNext old new None = (old.said ≡ Ok []) × (old.lines ≡ [])
IsNext old new (Some next) = IsTaken old next new × (new.bytes < old.bytes)

-- these commands were taken from lines, and others are left
pub record AreTaken (lines : LinesLeft) (taken : List NumberedCommand) (left : LinesLeft)
    : Type 0 where
  pub said : entries_after (commands_of taken) left.said ≡ lines.said
  pub numbers : numbers_of taken ++ left.lines ≡ lines.lines

-- memory ran out, or a line is bad
abbrev pub IsLinesFault : Result (List (Command ℕ)) ℕ → Fault → Type 0
IsLinesFault said (Refused OutOfMemory) = Unit {0}
IsLinesFault said (BadLine place n) = (place ≡ 0) × (said ≡ Err n)
IsLinesFault said _ = ⊥

-- ---- the text of a trace whose commands are run one after another

-- a driver carried out these commands on a table as the header asks for it, and this text has the
-- lines of what they came to
pub record HasGathered {O : Type 0} (o : Order ℕ) (h : Header) (commands : List (Command ℕ))
    (text : List ℕ) (d : Driver O ℕ) : Type 0 where
  pub opens : HeaderMayOpen h
  pub layout : Layout
  pub capacity : capacity_of layout ≡ h.capacity
  pub limit : limit_of layout ≡ greatest_of h.version
  pub notes : List (Note ℕ)
  pub driven : HasDriven o layout h.start commands notes d
  pub none : notes_in d ≡ []
  pub gathered : text ≡ flat_map note_text notes

-- what a command came to was said, so that whatever was gathered before, it is then, too
abbrev pub GathersCommand : {O W : Type 0} → Order ℕ → (W → Option (List ℕ)) → Command ℕ
    → Driver O ℕ → Driver O ℕ → Output W → Output W → Type 0
GathersCommand o contents c old new a b =
    (more : List ℕ) × Says contents a b more
    × ((h : Header) (commands : List (Command ℕ)) (text : List ℕ)
    → HasGathered o h commands text old → HasGathered o h (commands ++ c ∷ []) (text ++ more) new)

-- so was what all commands that these lines say came to
abbrev pub GathersLines : {O W : Type 0} → Order ℕ → (W → Option (List ℕ))
    → Result (List (Command ℕ)) ℕ → Driver O ℕ → Driver O ℕ → Output W → Output W → Type 0
GathersLines o contents said old new a b =
    (cs : List (Command ℕ)) × (said ≡ Ok cs) × (more : List ℕ) × Says contents a b more
    × ((h : Header) (commands : List (Command ℕ)) (text : List ℕ)
    → HasGathered o h commands text old → HasGathered o h (commands ++ cs) (text ++ more) new)
