use Rattle.recordings.proofs.Words.{◌∙◌, sym}
use Rattle.recordings.proofs.ModuleLemmas.{goes_on_if}
use Rattle.recordings.proofs.module_lines.go_on.Goals as goal

pub returns-then-is_of : goal.returns-then-is_of
returns-then-is_of c =
    goes_on_if c.args.modules.now.items c.in-Some.last c.args.name.now c.args.line.now c.args.last
    c.with.result c.in-Some.is (sym c.is_of.ensures ∙ c.if-is_of.true) c.with.ensures
