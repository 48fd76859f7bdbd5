use Rattle.command_tables.proofs.Words.{flat_map, take, Says}
use Rattle.command_tables.specs.RunTexts.{answered_text}
use Rattle.command_tables.proofs.run_texts.put_list.Given as goal

-- the lines of the answers so far were written
abbrev pub invariant-loop-answer : goal.invariant-loop-answer
invariant-loop-answer g l = Says g.W.Write.contents l.fn.writer l.writer
    (flat_map (answered_text l.catalog) (take l.answer-index l.answers))
