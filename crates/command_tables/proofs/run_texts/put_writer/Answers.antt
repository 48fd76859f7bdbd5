use Rattle.command_tables.proofs.Words.{ap, Ok, get_or, length, below_min, past_min, pair_said}
use Rattle.command_tables.proofs.Words.{pairs_said, same_text, change_text}
use Rattle.command_tables.proofs.run_texts.put_writer.Goals as goal

pub loop-place-preserved : goal.loop-place-preserved
loop-place-preserved g c =
    let n = c.loop-place.place in
    let names = c.args.names.now in
    let outcomes = c.args.outcomes.now in
    let below = below_min (length names) (length outcomes) c.min-place-end.result n
    c.min-place-end.ensures c.loop-place-test.true in
    let line = same_text
    (ap (λ x. change_text c.args.number (x, get_or outcomes n (Ok 0))) c.index-names-place.is)
    c.put_change.ensures in
    pair_said (change_text c.args.number) names outcomes n c.index-names-place.result (Ok 0) below.0
    below.1 c.loop-place.invariant line

pub returns : goal.returns
returns g c =
    let names = c.args.names.now in
    let outcomes = c.args.outcomes.now in
    pairs_said (change_text c.args.number) names outcomes c.loop-place.place
    (past_min (length names) (length outcomes) c.min-place-end.result c.loop-place.place
    c.min-place-end.ensures c.loop-place-test.false) c.loop-place.invariant
