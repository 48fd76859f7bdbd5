use Rattle.command_tables.proofs.Words.{flat_map, length, take, range_with_len, zip, Says}
use Rattle.command_tables.proofs.Words.{numbered_text}
use Rattle.command_tables.proofs.run_texts.put_refusals.Given as goal

-- the lines of the writers so far were written
abbrev pub invariant-loop-place : goal.invariant-loop-place
invariant-loop-place g l = Says g.W.Write.contents l.fn.writer l.writer (flat_map numbered_text
    (take l.place (zip (range_with_len 1 (length l.names)) (zip l.names l.outcomes))))
