use Rattle.latch_core.proofs.Words.{◌<◌, ◌++◌, length, get_or, refl, sym, ◌∙◌, ap, subst, arith}
use Rattle.latch_core.proofs.Words.{length-append, drop_more, Item, no_meeting, item_stores, AreOff}
use Rattle.latch_core.proofs.Words.{listed, swap_remove, take}
use Rattle.std.proofs.Common.{◌-◌}
use Rattle.latch_core.proofs.ChangeLemmas.{IsFresh, next_node, inserting_none, inserting_step}
use Rattle.latch_core.proofs.changes.plan_inserts.Goals as goal
use Rattle.latch_core.proofs.changes.plan_inserts.Given.{Over}
use Rattle.latch_core.proofs.changes.plan_inserts.Goals.{After-swap_remove-node}

pub loop-taken-init : goal.loop-taken-init
loop-taken-init g c =
    record {
      state = inserting_none g.O.TreeOrder.order c.args.shape.now c.args.insert.now c.args.fresh
          c.args.plan.now.stores_left c.args.links.now.items c.args.free.now.items c.requires.valid
          c.requires.apart c.requires.off c.requires.nodes;
      few = omega arith;
      links_len = omega arith;
      links_capacity = refl;
      plan_len = omega arith;
      plan_room = omega arith;
      shape_room = omega arith;
      free_len = omega arith;
      free_capacity = refl;
    }

-- there is a node for the next item
room : (g : Over) (c : After-swap_remove-node g)
    → (c.loop-taken.taken < c.args.fresh)
    × (c.args.fresh - 1 - c.loop-taken.taken < length c.loop-taken.free.items)
room g c =
    let inv = c.loop-taken.invariant in
    let room : c.loop-taken.taken < c.args.fresh =
    omega (arith, c.loop-taken-test.true, c.requires.enough) in
    (room, omega (arith, room, c.loop-taken.free.ok.0, inv.free_len, c.requires.free))

taken : (g : Over) (c : After-swap_remove-node g)
    → IsFresh c.args.shape.now.capacity c.loop-taken.free.items
    (swap_remove c.loop-taken.free.items (c.args.fresh - 1 - c.loop-taken.taken)
    c.swap_remove-node.result) (listed c.loop-taken.shape.tree)
    (take c.args.fresh c.args.free.now.items) c.swap_remove-node.result
taken g c =
    next_node g.O.TreeOrder.order c.args.shape.now c.loop-taken.shape c.args.insert.now
    c.loop-taken.taken c.args.fresh c.args.plan.now.stores_left c.loop-taken.plan.stores_left
    c.args.links.now.items c.loop-taken.links.items c.args.free.now.items
    c.loop-taken.free.items c.swap_remove-node.result c.loop-taken.invariant.state (room g c).0
    (room g c).1 c.swap_remove-node.ensures.value

pub plan_links-requires-clause-in_range : goal.plan_links-requires-clause-in_range
plan_links-requires-clause-in_range g c =
    subst (λ n. c.swap_remove-node.result < n)
    (sym c.loop-taken.invariant.state.done.both.zero.capacity)
    (taken g (goal.at.plan_links-requires-clause-in_range g c).After-swap_remove-node).in_range

pub plan_links-requires-clause-free : goal.plan_links-requires-clause-free
plan_links-requires-clause-free g c =
    (taken g (goal.at.plan_links-requires-clause-free g c).After-swap_remove-node).not_there

pub plan_links-requires-clause-apart : goal.plan_links-requires-clause-apart
plan_links-requires-clause-apart g c =
    let o = g.O.TreeOrder.order in
    let none : Item = record { a = 0; b = 0; tag = 0 } in
    let here = drop_more c.args.insert.now c.loop-taken.taken none c.loop-taken-test.true in
    no_meeting o (get_or c.args.insert.now c.loop-taken.taken none) c.loop-taken.shape.table
    (subst (λ xs. AreOff o xs c.loop-taken.shape.table) here c.loop-taken.invariant.state.off).0

pub loop-taken-preserved : goal.loop-taken-preserved
loop-taken-preserved g c =
    let o = g.O.TreeOrder.order in
    let inv = c.loop-taken.invariant in
    let (next, within) =
    room g (goal.at.loop-taken-preserved g c).After-swap_remove-node in
    let none : Item = record { a = 0; b = 0; tag = 0 } in
    let item = get_or c.args.insert.now c.loop-taken.taken none in
    let node = c.swap_remove-node.result in
    let p = c.plan_links.ensures.plan in
    let left =
    c.add.ensures.left ∙ ap (λ xs. c.loop-taken.plan.stores_left ++ xs) c.item_stores.ensures in
    let longer =
    ap length left ∙ length-append c.loop-taken.plan.stores_left (item_stores node item) in
    record {
      state = inserting_step o g.met.O.TreeOrder.lawful c.args.shape.now c.loop-taken.shape
          c.plan_links.new.self c.args.insert.now c.loop-taken.taken c.args.fresh item none node
          c.args.plan.now.stores_left c.loop-taken.plan.stores_left c.add.new.self.stores_left
          c.args.links.now.items c.loop-taken.links.items c.plan_links.new.out.items
          c.args.free.now.items c.loop-taken.free.items c.swap_remove-node.new.self.items p.0
          c.requires.first_copy c.loop-taken-test.true next within refl
          c.swap_remove-node.ensures.value inv.state c.plan_links.ensures.pictures p.2
          left p.1 c.swap_remove-node.ensures.items;
      few = omega (arith, inv.few, longer, c.plan_links.ensures.few);
      links_len = omega (arith, inv.links_len, c.plan_links.ensures.few);
      links_capacity = c.plan_links.ensures.capacity ∙ inv.links_capacity;
      plan_len = omega (arith, inv.plan_len, longer);
      plan_room = omega (arith, inv.plan_room, c.add.ensures.room);
      shape_room = omega (arith, inv.shape_room, c.plan_links.ensures.pictures.room);
      free_len = omega (arith, inv.free_len, c.swap_remove-node.ensures.len);
      free_capacity = c.swap_remove-node.ensures.capacity ∙ inv.free_capacity;
    }
