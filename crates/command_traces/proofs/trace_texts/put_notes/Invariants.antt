use Rattle.command_traces.proofs.Words.{flat_map, take, Says, note_text}
use Rattle.command_traces.proofs.trace_texts.put_notes.Given as goal

-- the lines of the notes before this one were written
abbrev pub invariant-loop-note : goal.invariant-loop-note
invariant-loop-note g l =
    Says g.W.Write.contents l.fn.writer l.writer (flat_map note_text (take l.note-index l.notes))
