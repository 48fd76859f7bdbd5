use Rattle.command_traces.proofs.Words.{then}
use Rattle.command_traces.specs.StepTexts.{event_text}
use Rattle.command_traces.proofs.step_texts.put_event.Goals as goal

pub returns : goal.returns
unfolding event_text
returns g c =
    let start = then (then c.put_json_count.ensures c.put_json_count-2.ensures) c.put.ensures in
    then (then start c.put_done.ensures) (then c.put_json_count-3.ensures c.put-2.ensures)
