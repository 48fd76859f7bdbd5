-- The commands of a trace one after another.
use Rattle.std.specs.Prelude.{◌≡◌, ℕ, List, [], ◌∷◌, length}
use Rattle.std.specs.Prelude.{Option, Some, None, Result, Ok, Err}
use Rattle.latch_steps.specs.declared.commands.Command.{Command}
use Rattle.run_files.specs.declared.command_lines.NumberedCommand.{NumberedCommand}
use Rattle.run_files.specs.declared.commands.CommandForm.{CommandForm}
use Rattle.texts.specs.declared.faults.LineFault.{LineFault}
use Rattle.run_files.specs.Commands.{command_by}
use Rattle.texts.specs.Lines.{lines_of}
use Rattle.texts.specs.Said.{FaultsInGrammar, entries_after, entries_from, said_lines}

-- what lines say that are left, the numbers of those that are commands, and how many bytes they are
pub record LinesLeft : Type 0 where
  pub said : Result (List (Command ℕ)) ℕ
  pub lines : List ℕ
  pub bytes : ℕ

abbrev pub lines_left : CommandForm → ℕ → List ℕ → LinesLeft
lines_left form number rest = record {
  said = entries_from (command_by form.version) number (lines_of rest);
  lines = said_lines number (lines_of rest);
  bytes = length rest;
}

-- these lines are left after this command was taken
pub record IsTaken (old : LinesLeft) (next : NumberedCommand) (new : LinesLeft) : Type 0 where
  pub said : old.said ≡ entries_after (next.command ∷ []) new.said
  pub lines : old.lines ≡ next.line ∷ new.lines

-- the next command of lines was taken, or none is left, or why none could be taken
abbrev pub GivesCommand : LinesLeft → LinesLeft → Result (Option NumberedCommand) LineFault → Type 0
GivesCommand old new (Ok None) = (old.said ≡ Ok []) × (old.lines ≡ [])
GivesCommand old new (Ok (Some next)) = IsTaken old next new
GivesCommand old new (Err fault) = FaultsInGrammar fault old.said

-- each line is in the grammar
abbrev pub IsUnderstood : Result (List (Command ℕ)) ℕ → Type 0
IsUnderstood said = (commands : List (Command ℕ)) × (said ≡ Ok commands)
