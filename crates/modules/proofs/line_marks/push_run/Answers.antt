use Rattle.modules.proofs.Words.{◌≡◌, ℕ, List, ◌++◌, OnOk, sym, ap, subst, ◌∙◌}
use Rattle.modules.proofs.Definitions.{line_marks, number_in, symbol_marks, Mark}
use Rattle.modules.proofs.LineMarkLemmas.{marks_of_run}
use Rattle.modules.specs.SharedRuns.{lines_of_one}
use Rattle.modules.proofs.line_marks.push_run.Goals as goal

pub returns : goal.returns
returns c =
    let kernel = c.args.kernel.now in
    let names = c.args.numbers.now in
    let run = c.args.run.now in
    let same : symbol_marks kernel c.number_of.result c.as_slice.result.now
    ≡ line_marks kernel names (lines_of_one run) =
    ap (λ (n : ℕ). symbol_marks kernel n c.as_slice.result.now) c.number_of.ensures
    ∙ ap (symbol_marks kernel (number_in names run.module.now))
    (c.as_slice.ensures ∙ c.table.ensures)
    ∙ sym (marks_of_run kernel names run.module.now run.symbols) in
    subst (λ (ms : List Mark). OnOk c.push_marks.result
    (c.push_marks.new.marks.items ≡ c.args.marks.now.items ++ ms)) same c.push_marks.ensures
