use Rattle.latch_core.proofs.Words.{◌≡◌, sym, subst, arith, capacity_of, limit_of, opening_latch}
use Rattle.latch_core.proofs.Words.{WriterView, RepresentsLatch, opening_writer}
use Rattle.latch_core.proofs.WriterLemmas.{opening_pictures}
use Rattle.latch_core.proofs.writers.WriterCore.open.Goals as goal

pub returns-clause-pictures : goal.returns-clause-pictures
returns-clause-pictures g c =
    let l = c.args.l in
    let start = c.args.start in
    let shown : WriterView = record {
      capacity = capacity_of l;
      limit = limit_of l;
      sequence = start;
      table = c.new.result.table;
      zero_tree = c.new.result.tree;
      one_tree = c.new.result.tree;
      stores_left = c.new-2.result.stores_left;
    } in
    let same : shown ≡ opening_writer l start = λ i. record {
      capacity = capacity_of l;
      limit = limit_of l;
      sequence = start;
      table = (c.new.ensures.empty i).table;
      zero_tree = (c.new.ensures.empty i).tree;
      one_tree = (c.new.ensures.empty i).tree;
      stores_left = c.new-2.ensures i;
    } in
    subst (λ w. RepresentsLatch w (opening_latch (capacity_of l) start)) (sym same)
    (opening_pictures l start (omega (arith, c.if-start-eq1.false)))
