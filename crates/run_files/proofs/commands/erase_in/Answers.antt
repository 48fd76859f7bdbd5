use Rattle.run_files.proofs.Words.{arith, tests}
use Rattle.run_files.proofs.FormLemmas.{erase_other}
use Rattle.run_files.proofs.commands.erase_in.Goals as goal

pub returns-in_default : goal.returns-in_default
returns-in_default c = grind (arith, tests, erase_other c.args.arguments.now)
