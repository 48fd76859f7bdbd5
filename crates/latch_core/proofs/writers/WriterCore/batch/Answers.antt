use Rattle.latch_core.proofs.Words.{◌≡◌, ◌+◌, ◌++◌, length, take, ◌∙◌, ap, subst, arith}
use Rattle.latch_core.proofs.Words.{capacity_of, mirror_stores, Batch}
use Rattle.latch_core.proofs.Words.{update_stores, stores_of_placed, InsertsItems, common_steps}
use Rattle.latch_core.proofs.WriterLemmas.{rests_before}
use Rattle.latch_core.proofs.BeginLemmas.{batch_is_small, with_room, PlansUpdate, batch_planned}
use Rattle.latch_core.proofs.BeginLemmas.{planned_step, planned_begun}
use Rattle.latch_core.proofs.writers.WriterCore.batch.Goals as goal
use Rattle.latch_core.proofs.writers.WriterCore.batch.Given.{Over}
use Rattle.latch_core.proofs.writers.WriterCore.batch.Goals.{After-drop-links-2}

pub reserve-requires-clause-size : goal.reserve-requires-clause-size
reserve-requires-clause-size g c = grind (arith, common_steps, batch_is_small)

planned : (g : Over) (c : After-drop-links-2 g)
    → PlansUpdate g.O.TreeOrder.order (capacity_of c.self.inside.layout)
    (with_room c.self.inside.shape c.reserve.new.shape.room) c.plan_inserts.new.shape
    (Batch c.args.erase.now c.args.insert.now) c.self.inside.free.items
    c.plan_inserts.new.free.items c.plan_inserts.ensures.plan.0 c.self.inside.sequence
    c.close.new.self.stores_left
planned g c =
    let o = g.O.TreeOrder.order in
    let s = c.self.inside in
    let insert = c.args.insert.now in
    let e = c.plan_erases.ensures.plan in
    let i = c.plan_inserts.ensures.plan in
    let free1 = c.plan_erases.new.free.items in
    let free2 = c.plan_inserts.new.free.items in
    let inserts = subst (λ k. InsertsItems o c.plan_erases.new.shape c.plan_inserts.new.shape insert
    i.0 i.1 (take k free1) free2) (c.len-fresh.ensures ∙ s.free.ok.0) i.4 in
    let items : c.plan_inserts.new.plan.stores_left ≡ stores_of_placed i.0 =
    i.2 ∙ ap (λ xs. xs ++ stores_of_placed i.0) c.reserve.ensures.plan_kept in
    let links : c.deref.result.now ≡ e.0 ++ i.1 = c.deref.ensures.value ∙ i.3
    ∙ ap (λ xs. xs ++ i.1) (e.1 ∙ ap (λ xs. xs ++ e.0) c.in_ok-reserve.ensures.links.0) in
    let kept = ap length c.reserve.ensures.plan_kept in
    let room = c.in_ok-reserve.ensures.links.1 in
    let few = c.plan_inserts.ensures.few in
    batch_planned c.self.invariant.0 c.reserve.ensures.kept e.2 inserts
    (omega (arith, ap length items, ap length links, c.plan_erases.ensures.few))
    (c.close.ensures
    ∙ (λ k. update_stores s.sequence (items k) (links k) (mirror_stores (links k))))

pub invariant_of-self-2 : goal.invariant_of-self-2
invariant_of-self-2 g c = (planned_step c.self.invariant.0 (planned g c), omega arith)

pub returns-clause-begun : goal.returns-clause-begun
returns-clause-begun g c =
    planned_begun c.self.view_is (rests_before g.O.TreeOrder.order c.args.self.now
    (Batch c.args.erase.now c.args.insert.now) c.requires.accepted) c.self.invariant.0
    c.reserve.ensures.kept (planned g c) c.stays_sound.ensures.balanced
    c.stays_sound-2.ensures.balanced
