use Rattle.latchsym.proofs.Words.{◌∙◌, ap, cond, line_if_noted, same_text, sym}
use Rattle.latchsym.specs.JobNotes.{overlap_line}
use Rattle.latchsym.proofs.job_notes.put_run_note.Goals as goal

pub returns-then-is_overlap : goal.returns-then-is_overlap
returns-then-is_overlap g c =
    let file = c.args.file.now in
    same_text
    (ap (λ b. cond b (overlap_line file) (line_if_noted c.args.names.now file c.args.note))
    (sym c.if-is_overlap.true ∙ c.is_overlap.ensures)) c.put_overlap.ensures
