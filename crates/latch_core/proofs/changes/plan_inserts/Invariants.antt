use Rattle.latch_core.proofs.Words.{◌≡◌, ◌≤◌, ◌+◌, length, STORES}
use Rattle.std.proofs.Common.{◌*◌, vec_len, vec_capacity}
use Rattle.latch_core.proofs.ChangeLemmas.{Inserting}
use Rattle.latch_core.proofs.changes.plan_inserts.Given as goal

abbrev pub invariant-loop-taken : goal.invariant-loop-taken
invariant-loop-taken g l =
    record {
      state : Inserting g.O.TreeOrder.order l.initial.shape l.shape l.insert l.taken l.fresh
          l.initial.plan.stores_left l.plan.stores_left l.initial.links.items l.links.items
          l.initial.free.items l.free.items;
      few : length l.plan.stores_left + vec_len l.links
          ≤ length l.initial.plan.stores_left + vec_len l.initial.links + l.taken * STORES;
      links_len : vec_len l.links ≤ vec_len l.initial.links + l.taken * STORES;
      links_capacity : vec_capacity l.links ≡ vec_capacity l.initial.links;
      plan_len : length l.plan.stores_left ≡ length l.initial.plan.stores_left + l.taken * 3;
      plan_room : l.plan.room + l.taken * 3 ≡ l.initial.plan.room;
      shape_room : l.shape.room + l.taken ≡ l.initial.shape.room;
      free_len : vec_len l.free + l.taken ≡ vec_len l.initial.free;
      free_capacity : vec_capacity l.free ≡ vec_capacity l.initial.free;
    }
