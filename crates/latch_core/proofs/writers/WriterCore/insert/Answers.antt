use Rattle.latch_core.proofs.Words.{◌≡◌, ◌≤◌, ◌++◌, ◌∷◌, [], length, ◌∙◌, ap, subst, arith}
use Rattle.latch_core.proofs.Words.{Contains, capacity_of, listed, Picture, mirror_stores}
use Rattle.latch_core.proofs.Words.{Insert, update_stores}
use Rattle.latch_core.proofs.BeginLemmas.{taken_node, with_room, PlansUpdate, insert_planned}
use Rattle.latch_core.proofs.BeginLemmas.{planned_step, planned_begun}
use Rattle.latch_core.proofs.writers.WriterCore.insert.Goals as goal
use Rattle.latch_core.proofs.writers.WriterCore.insert.Given.{Over}
use Rattle.latch_core.proofs.writers.WriterCore.insert.Goals.{After-close}

pub plan_links_apart-met-requires-clause-free : goal.plan_links_apart-met-requires-clause-free
plan_links_apart-met-requires-clause-free g c =
    let node =
    taken_node c.pop.new.self.items c.in-Some.node c.self.invariant.0 c.in-Some.ensures.items in
    λ is. node.1
    (subst (λ (p : Picture). Contains (listed p.tree) c.in-Some.node) c.reserve.ensures.kept is)

pub plan_links_apart-met-requires-clause-in_range : goal.plan_links_apart-met-requires-clause-in_range
plan_links_apart-met-requires-clause-in_range g c =
    let node =
    taken_node c.pop.new.self.items c.in-Some.node c.self.invariant.0 c.in-Some.ensures.items in
    omega (arith, ap (λ (p : Picture). p.capacity) c.reserve.ensures.kept)

-- what was planned
planned : (g : Over) (c : After-close g)
    → PlansUpdate g.O.TreeOrder.order (capacity_of c.self.inside.layout)
    (with_room c.self.inside.shape c.reserve.new.shape.room) c.plan_links_apart-met.new.self
    (Insert c.args.item) c.self.inside.free.items c.pop.new.self.items
    ((c.in-Some.node, c.args.item) ∷ []) c.self.inside.sequence c.close.new.self.stores_left
planned g c =
    let s = c.self.inside in
    let p = c.plan_links_apart-met.ensures.plan c.if-met.false in
    let links : c.deref.result.now ≡ p.0 =
    c.deref.ensures.value ∙ p.1 ∙ ap (λ xs. xs ++ p.0) c.in-Ok.ensures.links.0 in
    let items =
    c.add.ensures.left ∙ (λ i. c.reserve.ensures.plan_kept i ++ c.item_stores.ensures i) in
    let few : length p.0 ≤ 13 = omega
    (arith, ap length links, c.plan_links_apart-met.ensures.few, c.in-Ok.ensures.links.1) in
    insert_planned c.self.invariant.0 c.in-Some.ensures.items c.reserve.ensures.kept
    (c.plan_links_apart-met.ensures.pictures c.if-met.false) p.2 few (c.close.ensures
    ∙ (λ i. update_stores s.sequence (items i) (links i) (mirror_stores (links i))))

pub invariant_of-self-2 : goal.invariant_of-self-2
invariant_of-self-2 g c = (
  planned_step c.self.invariant.0 (planned g c),
  omega (arith, c.in-Some.ensures.capacity, c.self.invariant.1),
)

pub returns-clause-begun : goal.returns-clause-begun
returns-clause-begun g c = λ _.
    planned_begun c.self.view_is (c.is_ready.ensures c.if-not-is_ready.false).0 c.self.invariant.0
    c.reserve.ensures.kept (planned g c) c.stays_sound.ensures.balanced
    c.stays_sound-2.ensures.balanced
