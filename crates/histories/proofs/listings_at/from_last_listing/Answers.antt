use Rattle.histories.proofs.Words.{◌≡◌, ◌∙◌, ◌+◌, ◌-◌, ◌<◌, false, length, length-drop, take, drop}
use Rattle.histories.proofs.Words.{take_rest, get_or, arith, sym, ap, HistoryPart}
use Rattle.std.proofs.lemmas.List.{get_or-drop}
use Rattle.histories.proofs.PartLemmas.{from_listing}
use Rattle.histories.proofs.listings_at.from_last_listing.Goals as goal

pub returns-then-not-part-clause-is : goal.returns-then-not-part-clause-is
returns-then-not-part-clause-is c before =
    let parts = c.args.parts.now in
    let i = c.loop-i.i - 1 in
    let part = c.index-parts-i.result in
    let within : i < length parts = omega (arith, c.loop-i.invariant.within, c.loop-i-test.true) in
    let listing : (get_or parts i part).header.is_change ≡ false =
    sym (ap (λ (x : HistoryPart). x.header.is_change) (c.part.view_is ∙ c.index-parts-i.is))
    ∙ c.if-not-part.true
    in
    from_listing parts (take (length parts - i) (drop i parts)) i part before (take_rest parts i)
    within listing

pub returns-clause-few : goal.returns-clause-few
returns-clause-few c k d below =
    let parts = c.args.parts.now in
    let i = c.loop-i.i in
    let same : 1 + k ≡ i + (1 + k) = omega (arith, c.loop-i-test.false) in
    let within : 1 + k < length (drop i parts) =
    omega (arith, below, c.loop-i-test.false, length-drop 1 parts, length-drop i parts) in
    ap (λ (x : HistoryPart). x.header.is_change) (get_or-drop 1 parts k d
    ∙ ap (λ n. get_or parts n d) same ∙ sym (get_or-drop i parts (1 + k) d))
    ∙ c.loop-i.invariant.changes (1 + k) d within
