use Rattle.command_listings.proofs.Words.{then}
use Rattle.command_listings.proofs.log_notes.put_moved.Goals as goal

pub returns : goal.returns
returns g c = then (then (then (then c.put.ensures c.put_hexadecimal.ensures) c.put-2.ensures)
    c.put_hexadecimal-2.ensures) c.put-3.ensures
