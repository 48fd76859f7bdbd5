use Rattle.rb_cursor.proofs.Words.{◌≡◌, ◌≤◌, meets_on_the_way, weight}
use Rattle.rb_cursor.proofs.searches.+meets.Given as goal

abbrev pub decreases-meets : goal.decreases-meets
decreases-meets g l = weight l.tree.now

abbrev pub invariant-loop-fork : goal.invariant-loop-fork
invariant-loop-fork g l = record {
  same : meets_on_the_way g.O.TreeOrder.order l.item l.but l.rest
      ≡ meets_on_the_way g.O.TreeOrder.order l.item l.but l.tree;
  less : weight l.rest ≤ weight l.tree;
}

abbrev pub decreases-loop-fork : goal.decreases-loop-fork
decreases-loop-fork g l = weight l.rest
