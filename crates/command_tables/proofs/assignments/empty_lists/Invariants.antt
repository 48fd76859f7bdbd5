use Rattle.command_tables.proofs.Words.{[], AreListed}
use Rattle.command_tables.proofs.assignments.empty_lists.Given as goal

abbrev pub invariant-loop : goal.invariant-loop
invariant-loop g l = AreListed l.counter [] l.lists.items
