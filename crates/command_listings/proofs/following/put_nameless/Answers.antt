use Rattle.command_listings.proofs.Words.{Followed, PutsNameless, PutsPart, Unnamed, refl, true}
use Rattle.command_listings.proofs.FollowingLemmas.{puts_on}
use Rattle.logs.proofs.PutLemmas.{is_handed}
use Rattle.command_listings.proofs.following.put_nameless.Goals as goal

pub returns-in_err-names : goal.returns-in_err-names
returns-in_err-names g c =
    let a = c.args in
    let b = c.put_unnamed.new.annotator in
    let followed : Followed = record { is_narrow = a.followed.is_narrow; is_told = true } in
    rw (is_handed c.from_residual.result c.from_residual.ensures.1)
    (puts_on g.W.Write.contents a.writer.now c.put_unnamed.new.writer
    (PutsPart a.part a.annotator.now b (Unnamed a.followed.is_narrow))
    (PutsNameless a.part a.followed a.annotator.now b) (λ names. (followed, names))
    (λ names text put. (refl, refl, put)) c.in_err-names.field-0.0 c.in_err-names.ensures)
