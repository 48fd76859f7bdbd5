use Rattle.listing.proofs.Words.{flat_map, take, row_text}
use Rattle.texts.specs.Output.{Says}
use Rattle.listing.proofs.tallies.put_rows.Given as goal

-- the rows so far were written
abbrev pub invariant-loop-row : goal.invariant-loop-row
invariant-loop-row g l =
    Says g.W.Write.contents l.fn.writer l.writer (flat_map row_text (take l.row-index l.rows))
