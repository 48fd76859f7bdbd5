use Rattle.run_files.proofs.Words.{lines_of}
use Rattle.run_files.proofs.ScriptLineLemmas.{actors_are_given}
use Rattle.run_files.proofs.scripts.read_script.Goals as goal

pub returns-clause-actors : goal.returns-clause-actors
returns-clause-actors c =
    actors_are_given c.args.readers c.entries_in.result 1 (lines_of c.args.text.now)
    c.entries_in.ensures
