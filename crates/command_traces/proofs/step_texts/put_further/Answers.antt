use Rattle.command_traces.proofs.Words.{◌++◌, ap, arith, codes, flat_map, take_all, same_text}
use Rattle.command_traces.proofs.step_texts.put_further.Goals as goal

pub returns : goal.returns
returns g c =
    same_text (ap (flat_map (λ x. codes "," ++ g.T.Json.json_of x)) (take_all
    c.loop-value.value-index c.args.values.now (omega (arith, c.loop-value-test.false))))
    c.loop-value.invariant
