use Rattle.command_traces.proofs.Words.{ap, same_text, then, json_count}
use Rattle.command_traces.specs.StepTexts.{plain_load_members}
use Rattle.command_traces.specs.declared.step_texts.TheConstants as text
use Rattle.command_traces.proofs.step_texts.put_plain_load.Goals as goal

pub returns : goal.returns
unfolding plain_load_members
returns g c =
    then (same_text (ap (json_count text.LOAD.now) c.from.ensures) c.put_json_count.ensures)
    c.put_loaded_word.ensures
