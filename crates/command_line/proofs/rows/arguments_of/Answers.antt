use Rattle.command_line.proofs.Words.{ap, sym}
use Rattle.command_line.specs.CommandLine.{arguments_of}
use Rattle.command_line.proofs.rows.arguments_of.Goals as goal

pub returns-in-lookup : goal.returns-in-lookup
returns-in-lookup c = ap arguments_of (sym c.in-lookup.is)

pub returns-in-annotate : goal.returns-in-annotate
returns-in-annotate c = ap arguments_of (sym c.in-annotate.is)

pub returns-in-check : goal.returns-in-check
returns-in-check c = ap arguments_of (sym c.in-check.is)

pub returns-in-address : goal.returns-in-address
returns-in-address c = ap arguments_of (sym c.in-address.is)
