use Rattle.command_line.proofs.Words.{sym, ◌∙◌}
use Rattle.command_parts.proofs.FaultLemmas.{is_handed}
use Rattle.command_line.proofs.arguments.annotate_in.Goals as goal

pub returns-in_err-offset : goal.returns-in_err-offset
returns-in_err-offset c =
    rw (is_handed c.from_residual.result c.from_residual.ensures.1) c.in_err-offset.ensures

pub returns : goal.returns
returns c = c.annotate_with.ensures (sym c.is_followed_whole.ensures ∙ c.if-is_followed_whole.false)
    c.in_ok-offset.ensures
