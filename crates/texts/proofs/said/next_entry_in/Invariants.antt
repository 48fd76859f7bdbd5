use Rattle.texts.proofs.Words.{◌≡◌, ◌+◌, ◌≤◌, length, lines_of, entries_from, said_lines}
use Rattle.texts.proofs.said.next_entry_in.Given as goal

-- the lines that are left say what all do
abbrev pub invariant-loop-rest : goal.invariant-loop-rest
invariant-loop-rest g l = record {
  told : entries_from (g.F.Form.entry_of l.form) l.number (lines_of l.rest)
      ≡ entries_from (g.F.Form.entry_of l.form) l.first (lines_of l.text);
  lines : said_lines l.number (lines_of l.rest) ≡ said_lines l.first (lines_of l.text);
  numbered : l.number + length l.rest ≤ l.first + length l.text;
  fewer : length l.rest ≤ length l.text;
}

abbrev pub decreases-loop-rest : goal.decreases-loop-rest
decreases-loop-rest g l = length l.rest
