-- A run whose commands come one after another.
use Rattle.std.specs.Prelude.{◌≡◌, ℕ, List, [], ◌∷◌, ◌++◌}
use Rattle.order_laws.specs.Orders.{Order}
use Rattle.word_layout.specs.declared.layouts.Layout.{Layout}
use Rattle.word_layout.specs.Layouts.{capacity_of}
use Rattle.latch_core.specs.Writers.{MayOpen}
use Rattle.latch_steps.specs.declared.commands.Command.{Command}
use Rattle.latch_steps.specs.declared.drivers.Driver.{Driver}
use Rattle.latch_steps.specs.declared.replies.Note.{Note}
use Rattle.latch_steps.specs.declared.traces.Notes.{Notes}
use Rattle.latch_steps.specs.Runs.{Done, last_of, opening}
use Rattle.latch_steps.specs.Near.{AreShallow}
use Rattle.latch_steps.specs.Steps.{Run, machine_of}
use Rattle.latch_steps.specs.Traces.{notes_of}
use Rattle.latch_steps.specs.Expands.{Expand}
use Rattle.latch_steps.specs.Worlds.{RepresentsMoment, layout_in}
use Rattle.latch_steps.specs.Promises.{AreNotesOfCommands}

-- the notes that nobody has taken yet
abbrev pub notes_in : {O K : Type 0} → Driver O K → List (Note K)
notes_in d = d.recording.notes.items

-- from the opening on a driver carried out these commands, over red-black trees, and these notes
-- were taken from it
pub record HasDriven {O K : Type 0} (o : Order K) (l : Layout) (start : ℕ)
    (commands : List (Command K)) (taken : List (Note K)) (d : Driver O K) : Type 0 where
  pub opened : MayOpen l start
  pub layout : layout_in d.world ≡ l
  pub run : List (Done K)
  pub steps : Run (machine_of o l) (opening (capacity_of l) start) run
  pub expands : Expand (opening (capacity_of l) start) commands run
  pub notes : taken ++ notes_in d ≡ notes_of run
  pub shows : RepresentsMoment o d.world
      (last_of (opening (capacity_of l) start) run)
  pub shallow : AreShallow (capacity_of l) run

-- whatever it has carried out, then this command, too
abbrev pub DrivesOn : {O K : Type 0} → Order K → Command K → Driver O K → Driver O K → Type 0
DrivesOn {O} {K} o c old new =
    (l : Layout) (start : ℕ) (commands : List (Command K)) (taken : List (Note K))
    → HasDriven o l start commands taken old → HasDriven o l start (commands ++ c ∷ []) taken new

-- whatever was taken from it, then its notes, too
abbrev pub IsTakenFrom : {O K : Type 0} → Order K → Driver O K → Driver O K → Type 0
IsTakenFrom {O} {K} o old new =
    (l : Layout) (start : ℕ) (commands : List (Command K)) (taken : List (Note K))
    → HasDriven o l start commands taken old
    → HasDriven o l start commands (taken ++ notes_in old) new

-- the notes that were taken and then these, and this last sequence, come of a run of whatever
-- it has carried out
abbrev pub LeavesNotes : {O K : Type 0} → Order K → Driver O K → Notes O K → Type 0
LeavesNotes {O} {K} o d left =
    (l : Layout) (start : ℕ) (commands : List (Command K)) (taken : List (Note K))
    → HasDriven o l start commands taken d
    → AreNotesOfCommands o l start commands (taken ++ left.notes.items) left.sequence
