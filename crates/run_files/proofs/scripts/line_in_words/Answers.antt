use Rattle.run_files.proofs.Words.{arith, tests}
use Rattle.run_files.proofs.ScriptLineLemmas.{line_other}
use Rattle.run_files.proofs.scripts.line_in_words.Goals as goal

pub returns-in_default : goal.returns-in_default
returns-in_default c = grind (arith, tests, line_other c.args.readers c.args.words.now)
