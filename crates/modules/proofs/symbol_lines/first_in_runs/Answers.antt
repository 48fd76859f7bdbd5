use Rattle.modules.proofs.Words.{arith}
use Rattle.modules.proofs.RunLemmas.{first_address-append, lines_of_all-at}
use Rattle.modules.proofs.symbol_lines.first_in_runs.Goals as goal

pub returns-in-Some : goal.returns-in-Some
returns-in-Some c = grind (arith, lines_of_all-at, first_address-append)
