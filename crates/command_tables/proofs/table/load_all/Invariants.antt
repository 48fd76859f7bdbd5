use Rattle.command_tables.proofs.Words.{HoldsBelow}
use Rattle.command_tables.proofs.table.load_all.Given as goal

abbrev pub invariant-loop-number : goal.invariant-loop-number
invariant-loop-number l = HoldsBelow l.catalog l.number l.world
