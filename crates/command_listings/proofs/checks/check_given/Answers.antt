use Rattle.command_listings.proofs.Words.{◌≡◌, ◌∙◌, ℕ, List, Option, ap, false, sym, option_copied}
use Rattle.command_listings.proofs.Words.{lines_of, texts_in, bounds_are, bounds_for, BoundNames}
use Rattle.command_listings.proofs.Words.{IsOpened, Tallies, are_modules_hidden, are_symbols_hidden}
use Rattle.command_listings.proofs.Words.{holds_at, listings_of, same_texts, symbols_of, tallies_of}
use Rattle.command_listings.proofs.Words.{tallies_said, IsChecked, opened_report, report, report_by}
use Rattle.command_listings.proofs.Words.{option_map_or}
use Rattle.listing.specs.ModuleListing.{modules_in}
use Rattle.listing.specs.Owners.{unlisted_owner}
use Rattle.std.specs.Option.{option_and_then}
use Rattle.command_listings.proofs.GivenLemmas.{not_opened, said_or_not}
use Rattle.logs.proofs.PutLemmas.{is_handed}
use Rattle.command_listings.proofs.checks.check_given.Goals as goal

pub returns-in_err-opened : goal.returns-in_err-opened
returns-in_err-opened g c =
    let a = c.args in
    let kernel = option_copied a.kernel in
    let Is = IsChecked kernel a.files.now (option_copied a.history) in
    let given = texts_in a.texts.now in
    let fault = c.in_err-opened.field-0.0 in
    rw (is_handed c.from_residual.result c.from_residual.ensures.1)
    (not_opened g.W.Write.contents Is kernel given a.writer.now fault c.in_err-opened.ensures)

pub put_report-requires-clause-modules : goal.put_report-requires-clause-modules
put_report-requires-clause-modules g c = λ text listed.
    let given = texts_in c.args.texts.now in
    let (l, at, is) = holds_at _ (listings_of given) c.in_ok-opened.ensures in
    is.modules_hidden ∙ ap (λ m. option_map_or (λ t. are_modules_hidden (lines_of t)) m false)
    ((same_texts given l at).0 ∙ listed)

pub put_report-requires-clause-unlisted : goal.put_report-requires-clause-unlisted
put_report-requires-clause-unlisted g c = λ text listed.
    let given = texts_in c.args.texts.now in
    let (l, at, is) = holds_at _ (listings_of given) c.in_ok-opened.ensures in
    let (modules, kallsyms) = same_texts given l at in
    is.unlisted
    ∙ ap (option_and_then (λ t.
    unlisted_owner (modules_in (lines_of t)) (symbols_of false l.kallsyms))) (modules ∙ listed)
    ∙ ap (λ k. unlisted_owner (modules_in (lines_of text)) (symbols_of false k)) kallsyms

pub put_report-requires-clause-symbols : goal.put_report-requires-clause-symbols
put_report-requires-clause-symbols g c =
    let given = texts_in c.args.texts.now in
    let (l, at, is) = holds_at _ (listings_of given) c.in_ok-opened.ensures in
    is.symbols_hidden ∙ ap (λ t. are_symbols_hidden (lines_of t)) (same_texts given l at).1

pub returns : goal.returns
returns g c =
    let a = c.args in
    let kernel = option_copied a.kernel in
    let files = a.files.now in
    let history = option_copied a.history in
    let given = texts_in a.texts.now in
    let o = c.in_ok-opened.opened in
    let names = c.unwrap_or-names.result.now in
    let status = c.status_of_kept.result in
    let text = opened_report names files history given o in
    let (l, at, is) =
    holds_at (λ x. IsOpened kernel false x o) (listings_of given) c.in_ok-opened.ensures in
    let (modules, kallsyms) = same_texts given l at in
    let by : BoundNames → Option (List ℕ) → List ℕ → Tallies → List ℕ =
    λ n m k t. report_by n files history m k o.catalog o.built.symbols t in
    let named = bounds_are a.kernel _ c.unwrap_or-names.result (symbols_of false l.kallsyms)
    c.unwrap_or-names.ensures is.usual in
    let text_is : text ≡ report kernel files history l o.catalog o.built =
    ap (λ m. by names m given.kallsyms (tallies_of o)) (sym modules)
    ∙ ap (λ k. by names l.modules k (tallies_of o)) (sym kallsyms)
    ∙ ap (λ n. by n l.modules l.kallsyms (tallies_of o)) named
    ∙ ap (by (bounds_for kernel (symbols_of false l.kallsyms)) l.modules l.kallsyms)
    (tallies_said kernel false l o is) in
    said_or_not g.W.Write.contents (IsChecked kernel files history) given a.writer.now
    c.put_report.new.writer status text
    (rw at (o.catalog, o.built, is.said, text_is, c.status_of_kept.ensures))
    c.put_report.ensures c.unless_failed.result c.unless_failed.ensures
