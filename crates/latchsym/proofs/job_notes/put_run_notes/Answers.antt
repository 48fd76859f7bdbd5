use Rattle.latchsym.proofs.Words.{ap, same_text, then, line_if_noted, run_line}
use Rattle.latchsym.proofs.job_notes.put_run_notes.Goals as goal

pub returns : goal.returns
returns g c =
    let names = c.args.names.now in
    let notes = c.args.notes.now in
    then (same_text (ap (λ file. run_line names file notes.modules) c.as_bytes.ensures.value)
    c.put_run_note.ensures)
    (same_text (ap (λ file. line_if_noted names file notes.kallsyms) c.as_bytes-2.ensures.value)
    c.put_if_noted.ensures)
