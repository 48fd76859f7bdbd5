use Rattle.command_traces.proofs.Words.{ap, sym, same_text}
use Rattle.command_traces.specs.StepTexts.{update_members}
use Rattle.command_traces.proofs.step_texts.put_update.Goals as goal

pub returns-in-Insert : goal.returns-in-Insert
unfolding update_members
returns-in-Insert g c = same_text (ap update_members (sym c.in-Insert.is)) c.put_lists.ensures
