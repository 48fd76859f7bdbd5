use Rattle.latchsym.proofs.Words.{then}
use Rattle.latchsym.proofs.reports.put_failed.Goals as goal

pub returns : goal.returns
returns g c = then (then c.put_of_file.ensures c.put_reason.ensures) c.put.ensures
