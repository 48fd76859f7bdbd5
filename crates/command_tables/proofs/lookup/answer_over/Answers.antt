use Rattle.command_tables.proofs.Words.{◌≡◌, Some, Ok, [], ap, refl, subst, Query, listed_in}
use Rattle.command_tables.proofs.Words.{err_from_is_err_and, texts_in, failures_in, known_text}
use Rattle.command_tables.proofs.Words.{last_failures, inputs, inputs_of, AnswersLookup, IsLookupOf}
use Rattle.command_tables.proofs.Words.{addresses_known, all_addresses}
use Rattle.std.proofs.Common.{IfSome}
use Rattle.command_tables.proofs.InputLemmas.{listed_known, not_listed, said_of, still_answered}
use Rattle.command_tables.proofs.lookup.answer_over.Goals as goal

pub returns-in_err-listings : goal.returns-in_err-listings
returns-in_err-listings g c =
    let a = c.args in
    let w = a.writer.now in
    let said = addresses_known a.options.now (known_text g.A.Read.remaining a.file.now) in
    let (fault, is, same) = err_from_is_err_and c.from_residual.result c.from_residual.ensures.1 in
    rw (is, same)
    (not_listed (IsLookupOf g.W.Write.contents a.options.now w w) said (texts_in a.texts.now)
    (failures_in a.file.now) w c.in_err-listings.field-0.0 c.in_err-listings.ensures.listings)

pub returns : goal.returns
returns g c =
    let a = c.args in
    let options = a.options.now in
    let w = a.writer.now in
    let w' = c.answer_with.new.writer in
    let said = addresses_known options (known_text g.A.Read.remaining a.file.now) in
    let texts = texts_in a.texts.now in
    let l = listed_in c.in_ok-listings.listings in
    let addresses = c.in_ok-addresses.addresses.items in
    let file = known_text g.A.Read.remaining a.file.now in
    let read = subst (λ given. IfSome file (λ x. all_addresses given x ≡ Ok addresses))
    (ap (λ (q : Query). q.addresses) c.options.view_is) c.in_ok-addresses.ensures.1 in
    let answered = subst (λ x. AnswersLookup g.W.Write.contents options (Some (Ok (inputs l x))) []
    w w' c.answer_with.result) c.deref.ensures.value c.answer_with.ensures in
    still_answered (IsLookupOf g.W.Write.contents options w w') (Some (Ok (inputs l addresses)))
    (inputs_of said texts)
    (λ P p. listed_known P texts l c.in_ok-listings.ensures.listings (Ok addresses) said
    (said_of (all_addresses options.addresses) file (λ s. s ≡ Ok addresses) read) p)
    [] (last_failures (failures_in a.file.now) (failures_in c.all_addresses.new.file))
    (λ _. (refl, (refl, (refl, (c.in_ok-addresses.ensures.0, tt)))))
    (λ place bad. absurd bad) w w' c.answer_with.result answered
