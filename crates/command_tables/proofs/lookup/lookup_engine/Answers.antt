use Rattle.command_tables.proofs.Words.{err_from_is_err_and, known_given, texts_in, failures_in}
use Rattle.command_tables.proofs.Words.{known_text, inputs_of, known_inputs, IsLookupOf}
use Rattle.command_tables.proofs.Words.{addresses_known}
use Rattle.command_tables.proofs.InputLemmas.{answered_behind, given_known, not_read}
use Rattle.command_tables.proofs.lookup.lookup_engine.Goals as goal

pub returns-in_err-texts : goal.returns-in_err-texts
returns-in_err-texts g c =
    let a = c.args in
    let w = a.writer.now in
    let known =
    known_inputs (addresses_known a.options.now (known_text g.A.Read.remaining a.file.now))
    (known_given g.M.Read.remaining g.K.Read.remaining g.R.Read.remaining a.listings.now) in
    let (fault, is, same) = err_from_is_err_and c.from_residual.result c.from_residual.ensures.1 in
    rw (is, same) (not_read (IsLookupOf g.W.Write.contents a.options.now w w) known a.listings.now
    c.read_given.new.readers (failures_in a.file.now) w c.in_err-texts.field-0.0
    c.in_err-texts.ensures.read)

pub returns : goal.returns
returns g c =
    let a = c.args in
    let options = a.options.now in
    let said = addresses_known options (known_text g.A.Read.remaining a.file.now) in
    let known =
    known_given g.M.Read.remaining g.K.Read.remaining g.R.Read.remaining a.listings.now in
    let texts = texts_in c.in_ok-texts.texts in
    answered_behind (IsLookupOf g.W.Write.contents options a.writer.now c.answer_over.new.writer)
    (inputs_of said texts) (known_inputs said known)
    (λ P p. given_known P said texts known c.in_ok-texts.ensures.bytes p)
    a.listings.now c.read_given.new.readers c.in_ok-texts.ensures.read (failures_in a.file.now)
    (failures_in c.answer_over.new.file) a.writer.now c.answer_over.new.writer
    c.answer_over.result c.answer_over.ensures
