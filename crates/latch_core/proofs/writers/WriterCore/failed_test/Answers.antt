use Rattle.latch_core.proofs.Words.{◌∙◌, sym, ap, Batch, failed_test}
use Rattle.latch_core.proofs.writers.WriterCore.failed_test.Goals as goal

pub returns-in-Batch : goal.returns-in-Batch
returns-in-Batch g c =
    let o = g.O.TreeOrder.order in
    c.batch_test.ensures
    ∙ (λ i. failed_test o c.args.self.now.capacity c.args.self.now.table
    (Batch (c.as_slice.ensures i) (c.as_slice-in-Batch.ensures i)))
    ∙ ap (λ u. failed_test o c.args.self.now.capacity c.args.self.now.table u) (sym c.in-Batch.is)
