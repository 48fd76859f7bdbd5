use Rattle.latch_core.proofs.Words.{◌≡◌, ◌≤◌, ◌+◌, STORES}
use Rattle.std.proofs.Common.{◌*◌, vec_len, vec_capacity}
use Rattle.latch_core.proofs.ChangeLemmas.{Erasing}
use Rattle.latch_core.proofs.changes.plan_erases.Given as goal

abbrev pub invariant-loop-a : goal.invariant-loop-a
invariant-loop-a g l =
    record {
      state : Erasing l.initial.shape l.shape l.erase l.a-index l.initial.links.items l.links.items
          l.initial.free.items l.free.items;
      few : vec_len l.links ≤ vec_len l.initial.links + l.a-index * STORES;
      links_capacity : vec_capacity l.links ≡ vec_capacity l.initial.links;
      free_capacity : vec_capacity l.free ≡ vec_capacity l.initial.free;
      room_kept : l.initial.shape.room ≤ l.shape.room;
    }
