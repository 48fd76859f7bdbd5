use Rattle.modules.proofs.Words.{◌≡◌, take, None}
use Rattle.modules.proofs.Definitions.{first_owner, lines_of_all}
use Rattle.modules.proofs.symbol_lines.first_owner_in.Given as goal

abbrev pub invariant-loop-run : goal.invariant-loop-run
invariant-loop-run g l =
    first_owner (g.T.NameTest.passes l.test) (lines_of_all (take l.run-index l.runs)) ≡ None
