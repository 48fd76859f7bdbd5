use Rattle.command_listings.proofs.Words.{[], ◌∙◌, ap, cond, map, unwrap_or, option_copied}
use Rattle.command_listings.proofs.Words.{IsAddressed, words_text, found_by, kept_symbols}
use Rattle.command_listings.proofs.Words.{catalog_opened, texts_in, symbols_in, lines_of}
use Rattle.command_listings.proofs.Words.{then_flushed}
use Rattle.command_listings.proofs.GivenLemmas.{not_opened, said_or_not}
use Rattle.command_listings.proofs.SoughtLemmas.{line_by_map, text_by_map}
use Rattle.logs.proofs.PutLemmas.{is_handed}
use Rattle.command_listings.proofs.addresses.answer_names.Goals as goal

pub returns-in_err-opened : goal.returns-in_err-opened
returns-in_err-opened g c =
    let a = c.args in
    let kernel = option_copied a.kernel in
    let Is = IsAddressed a.form kernel (map (λ w. w.now) a.words.now) in
    let given = texts_in a.texts.now in
    let fault = c.in_err-opened.field-0.0 in
    rw (is_handed c.from_residual.result c.from_residual.ensures.1)
    (not_opened g.W.Write.contents Is kernel given a.writer.now fault c.in_err-opened.ensures)

pub returns : goal.returns
returns g c =
    let a = c.args in
    let kernel = option_copied a.kernel in
    let words = map (λ w. w.now) a.words.now in
    let given = texts_in a.texts.now in
    let index = c.in_ok-index.index in
    let notes = c.in_ok-opened.opened.notes in
    let m = c.in_ok-sought.sought in
    let kept = kept_symbols index (symbols_in (lines_of given.kallsyms)) in
    let says = rw (← c.in_ok-index.ensures) at
    (catalog_opened kernel given c.in_ok-opened.opened c.in_ok-opened.ensures) in
    let has = rw c.deref.ensures.value at c.in_ok-sought.ensures in
    let status = c.status_of_found-status.ensures
    ∙ ap (λ b. cond b 0 1) (c.has_any_line.ensures ∙ line_by_map a.form words kept m has) in
    said_or_not g.W.Write.contents (IsAddressed a.form kernel words) given a.writer.now
    c.flush.new.self (record { status = c.status_of_found-status.result; notes = notes })
    (words_text a.form (λ name. unwrap_or (found_by m name) []) words)
    (index, says, text_by_map a.form words kept m has, status)
    (then_flushed c.put_words.ensures c.flush.ensures) c.unless_failed.result
    c.unless_failed.ensures
