use Rattle.latchsym.proofs.Words.{then}
use Rattle.latchsym.proofs.job_notes.put_overlap.Goals as goal

pub returns : goal.returns
returns g c = then c.put_note_head.ensures c.put.ensures
