use Rattle.command_listings.proofs.Words.{then}
use Rattle.command_listings.proofs.log_notes.put_unnamed.Goals as goal

pub returns : goal.returns
returns g c = then (then c.put.ensures c.put_decimal.ensures) c.put-2.ensures
