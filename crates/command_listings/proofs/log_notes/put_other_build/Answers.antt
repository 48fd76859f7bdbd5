use Rattle.command_listings.proofs.Words.{then}
use Rattle.command_listings.proofs.log_notes.put_other_build.Goals as goal

pub returns : goal.returns
returns g c =
    then (then (then c.put_decimal.ensures c.put.ensures) c.put_decimal-2.ensures) c.put-2.ensures
