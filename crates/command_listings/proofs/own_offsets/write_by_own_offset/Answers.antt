use Rattle.command_listings.proofs.Words.{ap, Given, Ok, inl, inr, refl, subst, texts_in}
use Rattle.command_listings.specs.OwnOffsets.{OpensAndWrites, asked_by}
use Rattle.listing.specs.declared.address_rules.LogRule.{LogRule}
use Rattle.logs.proofs.PutLemmas.{is_handed}
use Rattle.command_listings.proofs.own_offsets.write_by_own_offset.Goals as goal

pub returns-in-Err : goal.returns-in-Err
returns-in-Err g c = rw c.in-Err.is
    (ap (λ n. Ok n) c.note_no_offset.ensures.status, refl, c.note_no_offset.ensures.line)

pub returns-in_err-asked : goal.returns-in_err-asked
returns-in_err-asked g c =
    rw (c.in-Ok.is, is_handed c.from_residual.result c.from_residual.ensures.1)
    (inl (refl, (refl, refl)))

pub returns : goal.returns
returns g c =
    let a = c.args in
    let done = c.open_and_write in
    let Writes : LogRule → Given → Type 0 = λ rule given. OpensAndWrites g.W.Write.contents
    g.E.Write.contents a.request.sources.now a.request.job.now a.outputs.now.writer
    done.new.outputs.writer a.outputs.now.errors done.new.outputs.errors rule given a.log.now
    done.result in
    rw c.in-Ok.is (inr (subst (λ rule. Writes rule (asked_by c.in-Ok.offset (texts_in a.texts)))
    c.by_offset-rule.ensures
    (subst (Writes c.by_offset-rule.result) c.in_ok-asked.ensures done.ensures)))
