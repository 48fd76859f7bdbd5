use Rattle.texts.proofs.Words.{◌∙◌, sym, subst, Appends}
use Rattle.texts.proofs.FlushedLemmas.{device_took}
use Rattle.texts.proofs.OutputLemmas.{all_delivered, then_flushed}
use Rattle.texts.proofs.output.Output.finish.Goals as goal

pub returns : goal.returns
returns g c = λ device opened text over said.
    let delivered = all_delivered (then_flushed said c.flush.ensures)
    (sym c.has_failed.ensures ∙ c.if-has_failed.false) in
    subst (λ w. Appends (g.W.Write.contents device) (g.W.Write.contents w) text)
    (sym c.into_inner.ensures)
    (device_took g.W.Write.contents device opened c.flush.new.self text over delivered)
