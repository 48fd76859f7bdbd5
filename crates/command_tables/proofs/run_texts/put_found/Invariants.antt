use Rattle.command_tables.proofs.Words.{flat_map, take, Says, answers_text}
use Rattle.command_tables.proofs.run_texts.put_found.Given as goal

-- the lines of the answers so far were written
abbrev pub invariant-loop-list : goal.invariant-loop-list
invariant-loop-list g l = Says g.W.Write.contents l.fn.writer l.writer
    (flat_map (answers_text l.catalog) (take l.list-index l.answers))
