use Rattle.command_traces.proofs.Words.{ap, sym, same_text, then, begun_members}
use Rattle.command_traces.proofs.step_texts.put_begun.Goals as goal

pub returns-in-Refused : goal.returns-in-Refused
returns-in-Refused g c =
    same_text (ap (begun_members c.args.update.now) (sym c.in-Refused.is))
    (then (then c.put-in-Refused.ensures c.put_update-in-Refused.ensures) c.put_refused.ensures)
