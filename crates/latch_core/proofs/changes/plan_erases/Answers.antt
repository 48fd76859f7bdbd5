use Rattle.latch_core.proofs.Words.{get_or, refl, arith}
use Rattle.latch_core.proofs.ChangeLemmas.{erasing_none, erasing_step}
use Rattle.latch_core.proofs.changes.plan_erases.Goals as goal

pub loop-a-init : goal.loop-a-init
loop-a-init g c =
    record {
      state = erasing_none c.args.shape.now c.args.erase.now c.args.links.now.items
          c.args.free.now.items c.requires.there c.requires.once c.requires.nodes;
      few = omega arith;
      links_capacity = refl;
      free_capacity = refl;
      room_kept = omega arith;
    }

pub loop-a-preserved : goal.loop-a-preserved
loop-a-preserved g c =
    let lt = c.loop-a-test.true in
    let inv = c.loop-a.invariant in
    let p = c.plan_erase-node.ensures.plan in
    record {
      state =
          erasing_step c.args.shape.now c.loop-a.shape c.plan_erase-node.new.self c.args.erase.now
          c.loop-a.a-index (get_or c.args.erase.now c.loop-a.a-index 0) c.plan_erase-node.result
          c.args.links.now.items c.loop-a.links.items c.plan_erase-node.new.out.items
          c.args.free.now.items c.loop-a.free.items c.push_reserved.new.self.items p.0
          c.requires.first_copy lt refl inv.state c.plan_erase-node.ensures.pictures p.1 p.2
          c.push_reserved.ensures.items;
      few = omega (arith, inv.few, c.plan_erase-node.ensures.few);
      links_capacity = omega (arith, inv.links_capacity, c.plan_erase-node.ensures.capacity);
      free_capacity = omega (arith, inv.free_capacity, c.push_reserved.ensures.capacity);
      room_kept = omega (arith, inv.room_kept, c.plan_erase-node.ensures.pictures.room);
    }
