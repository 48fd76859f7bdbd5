use Rattle.texts.proofs.OutputLemmas.{then_flushed}
use Rattle.texts.proofs.output.Output.deliver.Goals as goal

pub returns : goal.returns
returns g c = then_flushed c.put_past.ensures c.flush.ensures
