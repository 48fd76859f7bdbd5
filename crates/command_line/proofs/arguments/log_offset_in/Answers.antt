use Rattle.command_line.proofs.Words.{◌≡◌, ◌∙◌, ℕ, List, Result, Ok, Err, Row, codes, false, sym}
use Rattle.command_line.proofs.Words.{found_of, rows_of, Gives, JobFault}
use Rattle.command_line.specs.Jobs.{IsLogOffsetIn, IsOffsetIn, is_own_offset}
use Rattle.command_line.proofs.arguments.log_offset_in.Goals as goal

-- an offset that is given for a log is its offset
given : (rows : List Row) → is_own_offset rows ≡ false → (r : Result ℕ JobFault)
    → Gives IsOffsetIn (codes "annotate") rows r → Gives IsLogOffsetIn (codes "annotate") rows r
given rows other (Ok n) is = rw other is
given rows other (Err fault) bad = bad

pub returns : goal.returns
returns c =
    let other = sym c.is_own_offset.ensures ∙ c.if-is_own_offset.false in
    given (rows_of (found_of c.args.found.now)) other c.offset_in.result
    (c.offset_in.ensures (codes "annotate") other)
