use Rattle.command_tables.proofs.Words.{subst, IsAssigned, TellsServed}
use Rattle.command_tables.proofs.RunLemmas.{served_answered}
use Rattle.command_tables.proofs.runs.run_lines.Goals as goal

pub returns : goal.returns
returns g c =
    let contents = g.W.Write.contents in
    let catalog = c.args.catalog.now in
    let a = c.in_ok-changes.field-0 in
    let s = c.in_ok-served.served in
    let served = c.in_ok-served.ensures in
    let assigned = subst (λ ls. IsAssigned catalog c.args.readers ls a) c.deref.ensures.value
    c.in_ok-changes.ensures in
    served_answered contents catalog c.args.readers c.args.lines.items a assigned s
    served.may served.outcomes served.follow served.answers served.found served.looked served.wrong
    c.args.writer.now c.tell.new.writer
    c.tell.result
    (subst (λ n. TellsServed contents catalog n s c.args.writer.now c.tell.new.writer c.tell.result)
    c.deref-2.ensures.value c.tell.ensures)
