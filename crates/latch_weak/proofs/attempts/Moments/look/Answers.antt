use Rattle.latch_weak.proofs.Words.{arith, refl, ap, ◌∙◌, ◌≡◌, ◌<◌, set, get_or, length, subst, max}
use Rattle.latch_weak.proofs.Words.{ordered_before}
use Rattle.std.proofs.lemmas.Grind.{get_or_default_zero}
use Rattle.latch_weak.proofs.BarrierLemmas.{last_at_most}
use Rattle.latch_weak.proofs.ReaderLemmas.{looked}
use Rattle.latch_weak.proofs.attempts.Moments.look.Goals as goal

pub ordered_before-before-requires : goal.ordered_before-before-requires
ordered_before-before-requires g c =
    omega (arith, last_at_most c.args.self.now.stores.now c.args.word c.glance-glance.result.moment)

pub returns : goal.returns
returns g c =
    let least = c.args.reader.now.least.items in
    let w = c.args.word in
    let within : w < length least = omega (arith, c.requires.reader.sized, c.requires.word) in
    let held : c.index.result.now ≡ get_or least w 0 =
    c.index.ensures ∙ get_or_default_zero least w c.index.result.now within in
    let held_again : c.index-2.result.now ≡ get_or least w 0 =
    c.index-2.ensures ∙ get_or_default_zero least w c.index-2.result.now within in
    looked (g.S.LoadSchedule.chooses c.args.self.now.schedule.now) c.args.self.now.barriers
    c.args.self.now.opening.now c.args.self.now.stores.now c.args.reader.now _ w _
    c.glance-glance.result c.requires.reader c.requires.word
    (subst (λ y. g.S.LoadSchedule.chooses c.args.self.now.schedule.now c.args.reader.now.loads w
    c.args.reader.now.last y (length c.args.self.now.stores.now) c.glance-glance.result)
    (c.max-least.ensures ∙ ap (λ x. max x c.args.reader.now.floor) held)
    c.glance-glance.ensures.chosen)
    refl (omega (arith, held, c.max-least.ensures, c.glance-glance.ensures.seen))
    c.glance-glance.ensures.stored c.glance-glance.ensures.later c.glance-glance.ensures.exists
    (ap (set least w) (c.max.ensures ∙ (λ i. max (held_again i) (c.last_store-seen.ensures i))))
    refl
    (c.max-reader.ensures ∙ ap (max c.args.reader.now.at_barrier) (c.ordered_before-before.ensures
    ∙ ap (ordered_before c.args.self.now.barriers c.args.self.now.stores.now)
    c.last_store-seen.ensures))
    refl c.value_at.ensures
