use Rattle.command_traces.proofs.Words.{ap, sym, same_text, then, started_members}
use Rattle.command_traces.proofs.step_texts.put_started.Goals as goal

pub returns-in-Refused : goal.returns-in-Refused
returns-in-Refused g c =
    same_text (ap (started_members c.args.reader c.args.key) (sym c.in-Refused.is))
    (then (then c.put-in-Refused.ensures c.put_reader-in-Refused.ensures) c.put_refused.ensures)
