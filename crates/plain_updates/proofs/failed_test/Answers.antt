use Rattle.plain_updates.proofs.Words.{◌∙◌, sym, ap, capacity_of, Batch, failed_test}
use Rattle.plain_updates.proofs.failed_test.Goals as goal

pub returns-in-Batch : goal.returns-in-Batch
returns-in-Batch g c =
    let o = g.O.TreeOrder.order in
    c.batch_test.ensures
    ∙ (λ i. failed_test o (capacity_of c.args.l) c.args.table.now
    (Batch (c.as_slice.ensures i) (c.as_slice-in-Batch.ensures i)))
    ∙ ap (λ u. failed_test o (capacity_of c.args.l) c.args.table.now u) (sym c.in-Batch.is)
