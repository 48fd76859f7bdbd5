use Rattle.texts.proofs.Words.{sym, ◌∙◌}
use Rattle.texts.proofs.OutputLemmas.{lost_is_said, then, written_is_said}
use Rattle.texts.proofs.output.Output.put_past.Goals as goal

pub returns-then-has_failed : goal.returns-then-has_failed
returns-then-has_failed g c = lost_is_said c.args.bytes.now
    (sym c.has_failed.ensures ∙ c.if-has_failed.true) c.write_kept.ensures.said

pub returns : goal.returns
returns g c =
    let sound = sym c.has_failed.ensures ∙ c.if-has_failed.false in
    let wrote = c.write_all.ensures in
    then c.write_kept.ensures.said
    (written_is_said c.write_all.result c.args.bytes.now sound wrote.error wrote.all
    (c.write_kept.ensures.empty sound) (λ _. c.write_kept.new.self.kept.items) wrote.taken)
