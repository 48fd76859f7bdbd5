use Rattle.command_line.proofs.ParseLemmas.{subcommand_more_if_ok}
use Rattle.command_line.proofs.parser.with_subcommand.Goals as goal

pub returns : goal.returns
returns c = λ app command.
    subcommand_more_if_ok c.subcommand-2.result command
    (rw c.in_ok-subcommand.was at c.subcommand.ensures)
    c.subcommand-2.ensures
