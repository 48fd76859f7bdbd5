use Rattle.command_traces.proofs.Words.{◌∙◌, ap, same_text, json_count}
use Rattle.command_traces.specs.StepTexts.{refused_member}
use Rattle.command_traces.specs.declared.step_texts.TheConstants as text
use Rattle.command_traces.proofs.step_texts.put_refused.Goals as goal

pub returns : goal.returns
unfolding refused_member
returns g c = same_text (ap (json_count text.REFUSED.now) (c.from.ensures ∙ c.number.ensures))
    c.put_json_count.ensures
