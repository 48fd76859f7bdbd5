use Rattle.command_tables.proofs.Words.{flat_map, take, zip, Says, change_text}
use Rattle.command_tables.proofs.run_texts.put_writer.Given as goal

-- the lines of the changes so far were written
abbrev pub invariant-loop-place : goal.invariant-loop-place
invariant-loop-place g l = Says g.W.Write.contents l.fn.writer l.writer
    (flat_map (change_text l.number) (take l.place (zip l.names l.outcomes)))
