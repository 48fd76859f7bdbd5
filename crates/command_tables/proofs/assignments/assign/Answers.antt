use Rattle.command_tables.proofs.Words.{◌∷◌, ◌++◌, [], sym, subst, take, take_more, IsAssigned}
use Rattle.std.proofs.Common.{IfOk}
use Rattle.command_tables.proofs.assignments.assign.Goals as goal

pub loop-line-preserved : goal.loop-line-preserved
loop-line-preserved c =
    let catalog = c.args.catalog.now in
    let front = take c.loop-line.line-index c.args.lines.now in
    let added = subst (λ r. IfOk r
    (λ _. IsAssigned catalog c.args.readers (front ++ c.line-item.result ∷ []) c.add.new.self))
    c.in_ok-add.was (c.add.ensures front c.loop-line.invariant) in
    let item = subst (λ x. IsAssigned catalog c.args.readers (front ++ x ∷ []) c.add.new.self)
    c.line-item.is added in
    subst (λ ls. IsAssigned catalog c.args.readers ls c.add.new.self)
    (sym (take_more c.args.lines.now c.loop-line.line-index c.line-item.result
    c.loop-line-test.true)) item
