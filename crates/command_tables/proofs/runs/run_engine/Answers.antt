use Rattle.command_tables.proofs.Words.{err_from_is_err_and, failures_of, known_given, texts_in}
use Rattle.command_tables.proofs.Words.{device_of, inputs_of, known_inputs, IsRunOf, script_known}
use Rattle.command_tables.proofs.InputLemmas.{answered_behind, given_known, not_read}
use Rattle.command_tables.proofs.runs.run_engine.Goals as goal

pub returns-in_err-texts : goal.returns-in_err-texts
returns-in_err-texts g c =
    let a = c.args in
    let w = a.writer.now in
    let known = known_inputs (script_known a.count (g.S.Read.remaining (device_of a.script.now)))
    (known_given g.M.Read.remaining g.K.Read.remaining g.R.Read.remaining a.listings.now) in
    let (fault, is, same) = err_from_is_err_and c.from_residual.result c.from_residual.ensures.1 in
    rw (is, same) (not_read (IsRunOf g.W.Write.contents a.kernel.now a.count w w) known
    a.listings.now c.read_given.new.readers (failures_of a.script.now) w
    c.in_err-texts.field-0.0 c.in_err-texts.ensures.read)

pub returns : goal.returns
returns g c =
    let a = c.args in
    let said = script_known a.count (g.S.Read.remaining (device_of a.script.now)) in
    let known =
    known_given g.M.Read.remaining g.K.Read.remaining g.R.Read.remaining a.listings.now in
    let texts = texts_in c.in_ok-texts.texts in
    answered_behind
    (IsRunOf g.W.Write.contents a.kernel.now a.count a.writer.now c.run_over.new.writer)
    (inputs_of said texts) (known_inputs said known)
    (λ P p. given_known P said texts known c.in_ok-texts.ensures.bytes p)
    a.listings.now c.read_given.new.readers c.in_ok-texts.ensures.read (failures_of a.script.now)
    (failures_of c.run_over.new.script) a.writer.now c.run_over.new.writer c.run_over.result
    c.run_over.ensures
