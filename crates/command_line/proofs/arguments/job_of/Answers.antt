use Rattle.command_line.proofs.Words.{map}
use Rattle.command_line.proofs.ParseLemmas.{answers_error, answers_matches}
use Rattle.command_line.proofs.arguments.job_of.Goals as goal

pub returns-in-Ok-try_get_matches_from_mut : goal.returns-in-Ok-try_get_matches_from_mut
returns-in-Ok-try_get_matches_from_mut g c =
    let parse = c.in-Ok-try_get_matches_from_mut in
    answers_matches _ (map g.S.AsStr.text c.args.words.now) parse.matches c.job_in.result
    c.in-Ok.ensures.shape parse.ensures.kinds parse.ensures.ok.2
    c.job_in.ensures

pub returns : goal.returns
returns g c =
    let parse = c.in-Err-try_get_matches_from_mut in
    answers_error _ (map g.S.AsStr.text c.args.words.now) parse.error c.fault_of_error.result
    c.in-Ok.ensures.shape parse.ensures.kinds c.fault_of_error.ensures
