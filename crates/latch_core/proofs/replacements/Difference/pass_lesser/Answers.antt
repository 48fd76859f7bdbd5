use Rattle.latch_core.proofs.Words.{◌≡◌, Some, None, get_or, sym, ◌∙◌, ap, slice_get}
use Rattle.latch_core.proofs.Words.{get_or_from_slice_get, slice_get_past, Item, Difference}
use Rattle.latch_core.proofs.ReplacementLemmas.{passed_at}
use Rattle.latch_core.proofs.replacements.Difference.pass_lesser.Goals as goal

pub loop-self-preserved : goal.loop-self-preserved
loop-self-preserved g c =
    λ more h.
    let o = g.O.TreeOrder.order in
    let none : Item = record { a = 0; b = 0; tag = 0 } in
    let s : Difference = c.loop-self.self in
    passed_at o g.met.O.TreeOrder.lawful s.erase.items s.insert.items c.args.items.now s.place none
    c.args.item more c.push.new.self.items c.loop-self-test.true c.in_ok-push.ensures.items
    (sym c.less.ensures ∙ c.if-less.true) h
    ∙ c.loop-self.invariant more h

pub returns-else-less-clause-stops : goal.returns-else-less-clause-stops
returns-else-less-clause-stops g c =
    λ first there.
    let o = g.O.TreeOrder.order in
    let none : Item = record { a = 0; b = 0; tag = 0 } in
    let here : get_or c.args.items.now c.loop-self.self.place none ≡ first =
    get_or_from_slice_get c.args.items.now c.loop-self.self.place first none there in
    ap (λ x. o.less x c.args.item) (sym here) ∙ sym c.less.ensures ∙ c.if-less.false

pub returns-after-loop-self-clause-stops : goal.returns-after-loop-self-clause-stops
returns-after-loop-self-clause-stops g c =
    λ first there.
    let past : slice_get c.args.items.now c.loop-self.self.place ≡ None =
    slice_get_past c.args.items.now c.loop-self.self.place c.loop-self-test.false in
    absurd (let e : Some first ≡ None = sym there ∙ past in cc)
