use Rattle.latch_core.proofs.Words.{◌≡◌, ◌++◌, ◌∷◌, [], length, sym, ◌∙◌, ap, subst, arith}
use Rattle.latch_core.proofs.Words.{IfSome, is_some, capacity_of, Erases, mirror_stores}
use Rattle.latch_core.proofs.Words.{Erase, update_stores, AreInStep}
use Rattle.latch_core.proofs.BeginLemmas.{with_room, PlansUpdate, erase_planned, planned_step}
use Rattle.latch_core.proofs.BeginLemmas.{planned_begun}
use Rattle.latch_core.proofs.writers.WriterCore.erase.Goals as goal
use Rattle.latch_core.proofs.writers.WriterCore.erase.Given.{Over}
use Rattle.latch_core.proofs.writers.WriterCore.erase.Goals.{After-close}

-- what was planned
planned : (g : Over) (c : After-close g)
    → PlansUpdate g.O.TreeOrder.order (capacity_of c.self.inside.layout)
    (with_room c.self.inside.shape c.reserve.new.shape.room) c.plan_erase_found.new.self
    (Erase c.args.a) c.self.inside.free.items (c.self.inside.free.items ++ c.in-Some.node ∷ []) []
    c.self.inside.sequence c.close.new.self.stores_left
planned g c =
    let s = c.self.inside in
    let found = c.plan_erase_found.ensures in
    let p = found.plan (ap is_some c.in-Some.is) in
    let links : c.deref.result.now ≡ p.0 =
    c.deref.ensures.value ∙ p.1 ∙ ap (λ xs. xs ++ p.0) c.in-Ok.ensures.links.0 in
    let erases =
    subst (λ r. IfSome r (Erases c.reserve.new.shape c.plan_erase_found.new.self c.args.a))
    c.in-Some.is found.pictures in
    erase_planned c.self.invariant.0 c.reserve.ensures.kept erases p.2
    (omega (arith, ap length links, c.deref.ensures.len, found.few, c.in-Ok.ensures.links.1))
    (c.close.ensures ∙ (λ i. update_stores s.sequence (c.reserve.ensures.plan_kept i) (links i)
    (mirror_stores (links i))))

pub invariant_of-self-2 : goal.invariant_of-self-2
invariant_of-self-2 g c =
    let stores = c.close.new.self.stores_left in (
      subst
          (λ xs. AreInStep (capacity_of c.self.inside.layout) c.plan_erase_found.new.self xs stores)
          (sym c.push_reserved.ensures.items) (planned_step c.self.invariant.0 (planned g c)),
      omega (arith, c.push_reserved.ensures.capacity, c.self.invariant.1),
    )

pub returns-clause-begun : goal.returns-clause-begun
returns-clause-begun g c = λ _.
    planned_begun c.self.view_is (c.is_ready.ensures c.if-not-is_ready.false).0 c.self.invariant.0
    c.reserve.ensures.kept (planned g c) c.stays_sound.ensures.balanced
    c.stays_sound-2.ensures.balanced
