use Rattle.latch_core.proofs.Words.{◌+◌, ◌++◌, sym, subst, arith, AreAllNodes}
use Rattle.latch_core.proofs.ChangeLemmas.{one_free_more}
use Rattle.latch_core.proofs.nodes.add_nodes.Goals as goal

pub loop-node-preserved : goal.loop-node-preserved
loop-node-preserved c =
    let e = c.push_reserved.ensures in
    let kept = c.loop-node.invariant in
    record {
      all = λ used are. subst (λ xs. AreAllNodes (c.loop-node.node + 1) (xs ++ used)) (sym e.items)
          (one_free_more c.loop-node.node c.loop-node.free.items used (kept.all used are));
      fits = omega (arith, e.len, kept.fits);
      room = omega (arith, e.capacity, kept.room);
    }
