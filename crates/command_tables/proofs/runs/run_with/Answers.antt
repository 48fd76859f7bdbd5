use Rattle.command_tables.proofs.Words.{[], Some, subst, sym, script_of, listed_in, inputs_with}
use Rattle.command_tables.proofs.Words.{AnswersRun}
use Rattle.command_tables.proofs.RunLemmas.{script_answered}
use Rattle.command_tables.proofs.runs.run_with.Goals as goal

pub returns : goal.returns
returns g c =
    let contents = g.W.Write.contents in
    let a = c.args in
    let opened = c.in_ok-opened.opened in
    subst (AnswersRun contents a.kernel.now a.readers
    (Some (inputs_with (listed_in a.listings.now) (script_of a.readers a.script.now))) []
    a.writer.now c.run_lines-status.new.writer) (sym c.with_notes.ensures)
    (script_answered contents a.kernel.now (listed_in a.listings.now) a.readers a.script.now
    c.in-Ok.lines.items c.in-Ok.ensures.lines
    opened c.in_ok-opened.ensures.opened a.writer.now c.run_lines-status.new.writer
    c.run_lines-status.result c.run_lines-status.ensures)
