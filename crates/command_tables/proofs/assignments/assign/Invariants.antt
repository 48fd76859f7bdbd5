use Rattle.command_tables.proofs.Words.{take, IsAssigned}
use Rattle.command_tables.proofs.assignments.assign.Given as goal

-- the lines so far are assigned
abbrev pub invariant-loop-line : goal.invariant-loop-line
invariant-loop-line l = IsAssigned l.catalog l.readers (take l.line-index l.lines) l.assigned
