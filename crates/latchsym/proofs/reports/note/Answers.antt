use Rattle.latchsym.proofs.Words.{sym, refl, ◌∙◌}
use Rattle.latchsym.proofs.reports.note.Goals as goal

pub returns-then-any : goal.returns-then-any
returns-then-any g c = rw (sym c.any.ensures ∙ c.if-any.true) c.put_job_notes.ensures

pub returns-else-any : goal.returns-else-any
returns-else-any g c = rw (sym c.any.ensures ∙ c.if-any.false) refl
