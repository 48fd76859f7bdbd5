use Rattle.command_traces.proofs.Words.{ap, decimal, same_text, then}
use Rattle.command_traces.proofs.trace_texts.put_returned.Goals as goal

pub returns : goal.returns
returns g c =
    let key =
    then (then (same_text (ap decimal c.from.ensures) c.put_decimal.ensures) c.put.ensures)
    c.put_hexadecimal.ensures in
    let found = then (then key c.put-2.ensures) c.put_tag.ensures in
    let loads = then (then (then c.put-3.ensures c.put_decimal-2.ensures) c.put-4.ensures)
    c.put_decimal-3.ensures in
    let counts = then (then loads c.put-5.ensures) c.put_decimal-4.ensures in
    then (then found counts) c.put-6.ensures
