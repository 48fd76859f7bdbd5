use Rattle.latch_core.proofs.Words.{ℕ, ◌≤◌, ◌++◌, List, AreAllNodes}
use Rattle.std.specs.Prelude.{vec_len, vec_capacity}
use Rattle.latch_core.proofs.nodes.add_nodes.Given as goal

abbrev pub invariant-loop-node : goal.invariant-loop-node
invariant-loop-node l =
    record {
      all : (used : List ℕ) → AreAllNodes l.capacity (l.fn.free.items ++ used)
          → AreAllNodes l.node (l.free.items ++ used);
      fits : vec_len l.free ≤ l.node;
      room : l.more ≤ vec_capacity l.free;
    }
