use Rattle.command_line.proofs.Words.{found_of, rows_of}
use Rattle.command_line.proofs.ParseLemmas.{entered_is}
use Rattle.command_line.proofs.arguments.job_in.Goals as goal

pub returns-in-Some : goal.returns-in-Some
returns-in-Some c =
    let entered = entered_is c.args.matches.now c.in-Some.name.now
    (rows_of (found_of c.in-Some.found.now)) c.in-Some.ensures.name c.in-Some.ensures.rows in
    rw entered c.job_of_subcommand.ensures
