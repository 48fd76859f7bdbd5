use Rattle.latchsym.proofs.Words.{then}
use Rattle.latchsym.proofs.reports.put_bad_line.Goals as goal

pub returns : goal.returns
returns g c = then (then (then c.put.ensures c.put-2.ensures) c.put_decimal.ensures) c.put-3.ensures
