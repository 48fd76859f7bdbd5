use Rattle.command_tables.proofs.Words.{arith, inr, ap, ◌+◌, length, range_with_len, zip, below_min}
use Rattle.command_tables.proofs.Words.{past_min, pair_said, pairs_said, same_text, numbered_text}
use Rattle.command_tables.proofs.Words.{writer_text}
use Rattle.std.proofs.lemmas.List.FromFn.{length-range_with_len}
use Rattle.facts.proofs.Pairs.{numbered-zip, zip-past, zip-within}
use Rattle.command_tables.proofs.run_texts.put_refusals.Goals as goal

pub loop-place-preserved : goal.loop-place-preserved
loop-place-preserved g c =
    let n = c.loop-place.place in
    let names = c.args.names.now in
    let outcomes = c.args.outcomes.now in
    let below = below_min (length names) (length outcomes) c.min-place-end.result n
    c.min-place-end.ensures c.loop-place-test.true in
    let own = c.index-names-place.result in
    let had = c.index-outcomes-place.result in
    let line =
    same_text (ap (λ o. writer_text (n + 1) own.items o) c.deref-in-loop-place.ensures.value)
    (same_text (ap (λ o. writer_text (n + 1) o c.deref-in-loop-place.result.now)
    c.deref.ensures.value) c.put_writer.ensures) in
    let numbered = same_text (ap numbered_text (numbered-zip names outcomes n own had below.0
    below.1 c.index-names-place.is c.index-outcomes-place.is)) line in
    pair_said numbered_text (range_with_len 1 (length names)) (zip names outcomes) n 0 (own, had)
    (omega (arith, below.0, length-range_with_len 1 (length names)))
    (zip-within names outcomes n below.0 below.1) c.loop-place.invariant numbered

pub returns : goal.returns
returns g c =
    let n = c.loop-place.place in
    let names = c.args.names.now in
    let outcomes = c.args.outcomes.now in
    let few = zip-past names outcomes n (past_min (length names) (length outcomes)
    c.min-place-end.result n c.min-place-end.ensures c.loop-place-test.false) in
    pairs_said numbered_text (range_with_len 1 (length names)) (zip names outcomes) n (inr few)
    c.loop-place.invariant
