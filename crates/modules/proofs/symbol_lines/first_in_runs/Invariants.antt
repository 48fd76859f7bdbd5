use Rattle.modules.proofs.Words.{◌≡◌, take, None}
use Rattle.modules.proofs.Definitions.{first_address, lines_of_all}
use Rattle.modules.proofs.symbol_lines.first_in_runs.Given as goal

abbrev pub invariant-loop-run : goal.invariant-loop-run
invariant-loop-run l = first_address l.name (lines_of_all (take l.run-index l.runs)) ≡ None
