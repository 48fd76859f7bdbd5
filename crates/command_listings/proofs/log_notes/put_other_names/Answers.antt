use Rattle.command_listings.proofs.Words.{ap, decimal, same_text, then}
use Rattle.command_listings.proofs.log_notes.put_other_names.Goals as goal

pub returns : goal.returns
returns g c =
    let names = then c.put.ensures c.put_decimal.ensures in
    let of = then (then names c.put-2.ensures)
    (same_text (ap decimal c.saturating_add.ensures) c.put_decimal-2.ensures) in
    then of c.put-3.ensures
