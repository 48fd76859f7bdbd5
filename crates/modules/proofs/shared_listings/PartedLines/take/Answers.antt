use Rattle.modules.proofs.Words.{◌≡◌, ◌++◌, ◌∙◌, [], Some, is_none, map, sym, ap}
use Rattle.modules.proofs.Words.{nil_from_length}
use Rattle.modules.proofs.Lemmas.{append-nil, eqb-true}
use Rattle.modules.proofs.Definitions.{line_of, lines_of_run, symbols_that, ListedSymbol}
use Rattle.modules.proofs.SharedRunLemmas.{lines_of_shared-last, taken_owned, taken_owned_kernel}
use Rattle.modules.proofs.SharedRunLemmas.{taken_unowned, taken_unowned_kernel}
use Rattle.modules.specs.SharedRuns.{lines_of_shared}
use Rattle.modules.proofs.shared_listings.PartedLines.take.Goals as goal

pub returns-in_ok-push-in-Some-clause-kernel : goal.returns-in_ok-push-in-Some-clause-kernel
returns-in_ok-push-in-Some-clause-kernel c =
    let own = c.args.self.now.kernel.items in
    sym (ap (λ es. own ++ es) (taken_owned_kernel c.args.run c.in-Some.module c.in-Some.is)
    ∙ append-nil own)

pub returns-in_ok-push-in-Some-clause-runs : goal.returns-in_ok-push-in-Some-clause-runs
returns-in_ok-push-in-Some-clause-runs c =
    let m = c.in-Some.module in
    let runs = c.args.self.now.runs.items in
    ap lines_of_shared c.in_ok-push-in-Some.ensures.items
    ∙ lines_of_shared-last runs
    (record { «module» = m; symbols = c.in_ok-new-in-Some.field-0 })
    ∙ ap (λ ls. lines_of_shared runs ++ ls) (ap (map (line_of (Some m.now)))
    c.in_ok-new-in-Some.ensures ∙ sym (taken_owned c.args.run m c.in-Some.is))

pub returns-in-None-clause-kernel : goal.returns-in-None-clause-kernel
returns-in-None-clause-kernel c =
    let own = c.args.self.now.kernel in
    let none : own.items ≡ [] = nil_from_length own.items
    (sym own.ok.0 ∙ eqb-true own.len 0 (sym c.is_empty.ensures ∙ c.if-is_empty.true)) in
    sym (ap (λ es. es ++ symbols_that (λ (l : ListedSymbol). is_none l.owner)
    (lines_of_run c.args.run)) none ∙ taken_unowned_kernel c.args.run c.in-None.is)

pub returns-in-None-clause-runs : goal.returns-in-None-clause-runs
returns-in-None-clause-runs c =
    let lines = lines_of_shared c.args.self.now.runs.items in
    sym (ap (λ ls. lines ++ ls) (taken_unowned c.args.run c.in-None.is) ∙ append-nil lines)

pub returns-in_ok-append-in-None-2-clause-kernel : goal.returns-in_ok-append-in-None-2-clause-kernel
returns-in_ok-append-in-None-2-clause-kernel c =
    c.in_ok-append-in-None-2.ensures.items
    ∙ ap (λ es. c.args.self.now.kernel.items ++ es)
    (sym (taken_unowned_kernel c.args.run c.in-None-2.is))

pub returns-in_ok-append-in-None-2-clause-runs : goal.returns-in_ok-append-in-None-2-clause-runs
returns-in_ok-append-in-None-2-clause-runs c =
    let lines = lines_of_shared c.args.self.now.runs.items in
    sym (ap (λ ls. lines ++ ls) (taken_unowned c.args.run c.in-None-2.is) ∙ append-nil lines)
