use Rattle.logs.proofs.PutLemmas.{is_handed}
use Rattle.command_parts.proofs.HistoryLemmas.{not_understood, read_said, unread}
use Rattle.command_parts.proofs.history_files.read_listing_at.Goals as goal

pub returns-in_err-file : goal.returns-in_err-file
returns-in_err-file g c = rw (is_handed c.from_residual.result c.from_residual.ensures.1)
    (unread g.R.Read.remaining c.args.reader.now c.read_at.new.reader c.in_err-file.field-0.0
    c.in_err-file.ensures.read)

pub returns-in_err-history : goal.returns-in_err-history
returns-in_err-history g c =
    let read = rw (← c.deref.ensures.value) at c.in_ok-file.ensures.bytes in
    rw (is_handed c.from_residual-in_err-history.result c.from_residual-in_err-history.ensures.1)
    (not_understood g.R.Read.remaining c.args.reader.now c.read_at.new.reader c.deref.result.now
    c.in_err-history.field-0.0 c.in_ok-file.ensures.read read c.in_err-history.ensures)

pub returns : goal.returns
returns g c =
    let read = rw (← c.deref.ensures.value) at c.in_ok-file.ensures.bytes in
    let said = read_said g.R.Read.remaining c.args.reader.now c.read_at.new.reader
    c.deref.result.now _ read c.in_ok-history.ensures in
    (c.in_ok-history.history, (c.in_ok-file.ensures.read, said), c.in_ok-texts_at.ensures)
