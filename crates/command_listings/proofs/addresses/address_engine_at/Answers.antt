use Rattle.command_listings.proofs.Words.{inl, inr, refl}
use Rattle.logs.proofs.PutLemmas.{is_handed}
use Rattle.command_listings.proofs.addresses.address_engine_at.Goals as goal

pub returns-in_err-texts : goal.returns-in_err-texts
returns-in_err-texts g c = rw (is_handed c.from_residual.result c.from_residual.ensures.1)
    (inl (c.in_err-texts.ensures, refl))

pub returns : goal.returns
returns g c =
    let read = c.in_ok-texts.ensures in
    inr (read.0, read.1, rw read.2 at c.answer_names.ensures)
