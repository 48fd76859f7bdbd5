use Rattle.command_tables.proofs.Words.{flat_map, take, Says, line_by}
use Rattle.command_tables.proofs.lookup_texts.put_answers.Given as goal

-- the lines of the answers so far were written
abbrev pub invariant-loop-answer : goal.invariant-loop-answer
invariant-loop-answer g l = Says g.W.Write.contents l.fn.writer l.writer
    (flat_map (line_by l.form l.catalog l.rule) (take l.answer-index l.answers))
