use Rattle.command_tables.proofs.Words.{◌≡◌, of_read, Some, [], refl, subst, err_from_is_err_and}
use Rattle.command_tables.proofs.Words.{listed_in, texts_in, last_failures, script_of, device_of}
use Rattle.command_tables.proofs.Words.{failures_of, inputs_of, inputs_with, AnswersRun, IsRunOf}
use Rattle.command_tables.proofs.Words.{script_known}
use Rattle.command_tables.proofs.InputLemmas.{listed_known, not_listed, said_of, still_answered}
use Rattle.command_tables.proofs.runs.run_over.Goals as goal

pub returns-in_err-listings : goal.returns-in_err-listings
returns-in_err-listings g c =
    let a = c.args in
    let w = a.writer.now in
    let said = script_known a.readers (g.S.Read.remaining (device_of a.script.now)) in
    let (fault, is, same) = err_from_is_err_and c.from_residual.result c.from_residual.ensures.1 in
    rw (is, same) (not_listed (IsRunOf g.W.Write.contents a.kernel.now a.readers w w) said
    (texts_in a.texts.now) (failures_of a.script.now) w c.in_err-listings.field-0.0
    c.in_err-listings.ensures.listings)

pub returns : goal.returns
returns g c =
    let a = c.args in
    let w = a.writer.now in
    let w' = c.run_with.new.writer in
    let script = g.S.Read.remaining (device_of a.script.now) in
    let says = script_of a.readers in
    let texts = texts_in a.texts.now in
    let l = listed_in c.in_ok-listings.listings in
    let text = c.in_ok-text.text.items in
    let answered = subst (λ x. AnswersRun g.W.Write.contents a.kernel.now a.readers
    (Some (inputs_with l (says x))) [] w w' c.run_with.result) c.deref.ensures.value
    c.run_with.ensures in
    still_answered (IsRunOf g.W.Write.contents a.kernel.now a.readers w w')
    (Some (inputs_with l (says text))) (inputs_of (script_known a.readers script) texts)
    (λ P p. listed_known P texts l c.in_ok-listings.ensures.listings (says text)
    (script_known a.readers script) (said_of says script (λ s. s ≡ says text)
    (of_read script text (λ x. says x ≡ says text) c.in_ok-text.ensures.bytes refl)) p)
    [] (last_failures (failures_of a.script.now) (failures_of c.read_at.new.reader))
    (λ _. (refl, (refl, (refl, (c.in_ok-text.ensures.read, tt)))))
    (λ place bad. absurd bad) w w' c.run_with.result answered
