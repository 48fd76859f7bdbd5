use Rattle.command_listings.proofs.Words.{flat_map, take, Says, is_of_kallsyms, line_where}
use Rattle.command_listings.proofs.Words.{note_line}
use Rattle.command_listings.proofs.checks.put_symbol_notes.Given as goal

-- the lines of the notes so far were written
abbrev pub invariant-loop-note : goal.invariant-loop-note
invariant-loop-note g l = Says g.W.Write.contents l.fn.writer l.writer
    (flat_map (λ note. line_where (is_of_kallsyms l.names l.facts.is_alone l.text l.facts.kept note)
    (note_line l.names l.file note)) (take l.note-index l.notes))
