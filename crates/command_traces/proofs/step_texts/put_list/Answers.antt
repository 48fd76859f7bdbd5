use Rattle.command_traces.proofs.Words.{ap, same_text, then}
use Rattle.command_traces.proofs.EventLineLemmas.{list_told}
use Rattle.command_traces.proofs.step_texts.put_list.Goals as goal

pub returns : goal.returns
returns g c =
    let first = same_text (ap g.T.Json.json_of c.first-item.is) c.put-3.ensures in
    same_text (list_told g.T.Json.json_of c.args.values.now _ c.in-len1-up.len_at_least)
    (then (then (then c.put-2.ensures first) c.put_further.ensures) c.put-4.ensures)
