use Rattle.command_line.proofs.Words.{◌≡◌, [], take, rows_in}
use Rattle.command_line.proofs.ConflictLemmas.{conflicts}
use Rattle.command_line.proofs.arguments.conflict_in.Given as goal

abbrev pub invariant-loop-row : goal.invariant-loop-row
invariant-loop-row l =
    record { none : conflicts (rows_in l.found) (take l.row-index l.row-items) ≡ [] }
