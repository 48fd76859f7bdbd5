use Rattle.command_parts.proofs.Words.{take, Says, row_member}
use Rattle.std.proofs.Common.{flat_map}
use Rattle.command_parts.proofs.json_texts.put_rows.Given as goal

-- the rows so far were written
abbrev pub invariant-loop-row : goal.invariant-loop-row
invariant-loop-row g l =
    Says g.W.Write.contents l.fn.writer l.writer (flat_map row_member (take l.row-index l.rows))
