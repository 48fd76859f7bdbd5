use Rattle.modules.proofs.Words.{arith}
use Rattle.modules.proofs.RunLemmas.{first_owner-append, lines_of_all-at}
use Rattle.modules.proofs.symbol_lines.first_owner_in.Goals as goal

pub returns-in-Some : goal.returns-in-Some
returns-in-Some g c = grind (arith, lines_of_all-at, first_owner-append)
