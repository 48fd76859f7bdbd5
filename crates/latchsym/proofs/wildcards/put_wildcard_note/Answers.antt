use Rattle.latchsym.proofs.Words.{ap, same_text, then}
use Rattle.latchsym.specs.Wildcards.{wildcard_line}
use Rattle.latchsym.proofs.wildcards.put_wildcard_note.Goals as goal

pub returns : goal.returns
returns g c = same_text (ap wildcard_line c.as_bytes.ensures.value)
    (then c.put_note_head.ensures c.put.ensures)
