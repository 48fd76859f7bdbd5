use Rattle.texts.proofs.Words.{sym, ◌∙◌}
use Rattle.texts.proofs.OutputLemmas.{kept_is_said, lost_is_said, then}
use Rattle.texts.proofs.output.Output.put_through.Goals as goal

pub returns-then-has_failed : goal.returns-then-has_failed
returns-then-has_failed g c = lost_is_said c.args.bytes.now
    (sym c.has_failed.ensures ∙ c.if-has_failed.true) c.write_kept.ensures.said

pub returns : goal.returns
returns g c =
    then c.write_kept.ensures.said (kept_is_said (sym c.has_failed.ensures ∙ c.if-has_failed.false)
    (λ _. c.write_kept.new.self.device) c.append.ensures)
