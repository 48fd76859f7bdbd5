use Rattle.command_listings.proofs.Words.{Vec, ℕ, then, then_flushed}
use Rattle.command_listings.proofs.GivenLemmas.{missing_mapped}
use Rattle.command_listings.proofs.checks.put_report.Goals as goal

pub returns : goal.returns
returns g c =
    let missing = missing_mapped (λ (text : Vec ℕ). text.items) c.args.texts.now.modules
    c.is_none.result c.is_none.ensures in
    let of_symbols = rw (c.as_bytes.ensures.value, c.deref.ensures.value, missing)
    at c.put_symbol_notes.ensures in
    then_flushed (then (then (then c.put_notes_if_listed.ensures of_symbols) c.put_history.ensures)
    (rw c.tallies.ensures at c.put_counts.ensures)) c.flush.ensures
