use Rattle.command_traces.proofs.Words.{◌++◌, codes, flat_map, take, Says}
use Rattle.command_traces.proofs.step_texts.put_further.Given as goal

-- those so far were written
abbrev pub invariant-loop-value : goal.invariant-loop-value
invariant-loop-value g l = Says g.W.Write.contents l.fn.writer l.writer
    (flat_map (λ x. codes "," ++ g.T.Json.json_of x) (take l.value-index l.values))
