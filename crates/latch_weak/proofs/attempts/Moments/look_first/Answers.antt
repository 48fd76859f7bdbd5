use Rattle.latch_weak.proofs.Words.{arith, ap, ◌∙◌, sym, cond, last_store, ordered_before}
use Rattle.latch_weak.proofs.BarrierLemmas.{last_at_most}
use Rattle.latch_weak.proofs.ReaderLemmas.{looked_first, looked_alone}
use Rattle.latch_weak.proofs.attempts.Moments.look_first.Goals as goal

pub ordered_before-requires : goal.ordered_before-requires
ordered_before-requires g c =
    omega (arith, last_at_most c.args.self.now.stores.now 0 c.look-first.new.reader.last.moment)

pub returns-then-self : goal.returns-then-self
returns-then-self g c =
    let b = c.args.self.now.barriers in
    let ss = c.args.self.now.stores.now in
    let moment = c.look-first.new.reader.last.moment in
    looked_first _ b _ _ _ _ _ _ _ c.look-first.ensures
    (c.ordered_before.ensures ∙ ap (ordered_before b ss) c.last_store-seen.ensures
    ∙ ap (λ d. cond d (ordered_before b ss (last_store ss 0 moment)) 0) (sym c.if-self.true))
    c.raise.ensures.view c.raise.ensures.words c.raise.ensures.barrier c.raise.ensures.last
    c.raise.ensures.loads

pub returns-else-self : goal.returns-else-self
returns-else-self g c =
    looked_alone _ c.args.self.now.barriers _ _ _ _ _ c.look-first.ensures c.if-self.false
