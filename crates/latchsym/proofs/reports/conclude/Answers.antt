use Rattle.latchsym.proofs.Words.{refl}
use Rattle.latchsym.proofs.reports.conclude.Goals as goal

pub returns-in-Ok : goal.returns-in-Ok
returns-in-Ok g c =
    rw c.in-Ok.is (refl, (c.note.new.writer, c.note.ensures, c.note_wildcard.ensures))
