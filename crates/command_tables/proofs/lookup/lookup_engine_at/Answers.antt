use Rattle.command_tables.proofs.Words.{List, inr, subst, failures_in, inputs_of, known_text}
use Rattle.command_tables.proofs.Words.{last_failures, addresses_known, AnswersLookup}
use Rattle.command_parts.proofs.HistoryLemmas.{no_history}
use Rattle.command_parts.specs.HistoryFiles.{symbols_alone}
use Rattle.histories.specs.Grammar.{HistoryPart}
use Rattle.histories.specs.ListingsAt.{listing_at}
use Rattle.listing.specs.Opening.{Given}
use Rattle.command_tables.proofs.lookup.lookup_engine_at.Goals as goal

pub returns-in_err-texts : goal.returns-in_err-texts
returns-in_err-texts g c =
    let a = c.args in
    let w = a.writer.now in
    let n = failures_in a.file.now in
    let said = addresses_known a.options.now (known_text g.A.Read.remaining a.file.now) in
    let Answers : List HistoryPart → _ = λ parts. AnswersLookup g.W.Write.contents a.options.now
    (inputs_of said (symbols_alone (listing_at a.time parts))) (last_failures n n) w w in
    no_history g.R.Read.remaining a.history.now c.read_listing_at.new.reader Answers w
    c.from_residual.result c.in_err-texts.field-0.0 c.from_residual.ensures.1
    c.in_err-texts.ensures

pub returns : goal.returns
returns g c =
    let a = c.args in
    let read = c.in_ok-texts.ensures in
    let said = addresses_known a.options.now (known_text g.A.Read.remaining a.file.now) in
    let counts = last_failures (failures_in a.file.now) (failures_in c.answer_over.new.file) in
    let Answers : Given → Type 0 = λ given. AnswersLookup g.W.Write.contents a.options.now
    (inputs_of said given) counts a.writer.now c.answer_over.new.writer c.answer_over.result in
    inr (read.0, read.1, subst Answers read.2 c.answer_over.ensures)
