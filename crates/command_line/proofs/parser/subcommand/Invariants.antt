use Rattle.command_line.proofs.Words.{take, IsCommand}
use Rattle.command_line.proofs.ParseLemmas.{app_with}
use Rattle.command_line.proofs.parser.subcommand.Given as goal

abbrev pub invariant-loop-row : goal.invariant-loop-row
invariant-loop-row l =
    record { is : IsCommand (app_with l.fn.name (take l.row-index l.row-items)) l.command }
