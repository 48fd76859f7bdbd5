use Rattle.shared_lookup.proofs.Words.{◌∙◌, ap, length, take, sym, subst, arith, zip, zip-append}
use Rattle.shared_lookup.proofs.Words.{length-map_same, length-map_same_at, CountsUpTo}
use Rattle.shared_lookup.proofs.Words.{IsWrongChange, entries}
use Rattle.shared_lookup.proofs.CountLemmas.{entries_more, entries_same, up_to_append}
use Rattle.shared_lookup.proofs.outcomes.wrong_changes.Goals as goal

pub wrong_in_list-here-requires : goal.wrong_in_list-here-requires
wrong_in_list-here-requires c =
    ap length c.deref-in-loop-place.ensures.value
    ∙ length-map_same_at c.args.changes.now c.args.outcomes.now c.requires c.loop-place.place
    c.index-changes-place.result c.index-outcomes-place.result c.loop-place-test.true
    c.index-changes-place.is c.index-outcomes-place.is
    ∙ sym (ap length c.deref.ensures.value)

pub loop-place-preserved : goal.loop-place-preserved
loop-place-preserved c =
    let P = IsWrongChange c.args.c.now c.args.log.now in
    let xs = c.args.changes.now in
    let ys = c.args.outcomes.now in
    let i = c.loop-place.place in
    let x = c.index-changes-place.result in
    let y = c.index-outcomes-place.result in
    let less = c.loop-place-test.true in
    let same = length-map_same xs ys c.requires in
    let first = entries_more xs i x less c.index-changes-place.is in
    let second = entries_more ys i y (omega (arith, less, same)) c.index-outcomes-place.is in
    let here = subst (λ zs. CountsUpTo P zs c.wrong_in_list-here.result)
    (λ j. zip (c.deref.ensures.value j) (c.deref-in-loop-place.ensures.value j))
    c.wrong_in_list-here.ensures in
    let all = up_to_append P (zip (entries (take i xs)) (entries (take i ys))) (zip x.items y.items)
    c.loop-place.wrong c.wrong_in_list-here.result c.saturating_add-wrong.result
    c.loop-place.invariant here c.saturating_add-wrong.ensures in
    let parts = (λ j. zip (first j) (second j)) ∙ zip-append (entries (take i xs)) x.items
    (entries (take i ys)) y.items (entries_same xs ys c.requires i) in
    subst (λ zs. CountsUpTo P zs c.saturating_add-wrong.result) (sym parts) all
