use Rattle.command_traces.proofs.Words.{ap, same_text, then, json_count}
use Rattle.command_traces.specs.StepTexts.{opening_text}
use Rattle.command_traces.specs.declared.step_texts.TheConstants as text
use Rattle.command_traces.proofs.step_texts.put_opening.Goals as goal

pub returns : goal.returns
unfolding opening_text
returns g c =
    let version = same_text (ap (json_count text.OPENING.now) c.version_number-version.ensures)
    c.put_json_count.ensures in
    let order = same_text c.order_text.ensures c.put-2.ensures in
    let capacity =
    same_text (ap (json_count text.CAPACITY.now) c.from.ensures) c.put_json_count-2.ensures in
    then (then (then (then (then version c.put.ensures) order) capacity) c.put_json_count-3.ensures)
    c.put-3.ensures
