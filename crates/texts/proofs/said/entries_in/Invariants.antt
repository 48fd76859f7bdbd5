use Rattle.texts.proofs.Words.{◌≡◌, ◌+◌, ◌≤◌, length, lines_of, entries_from, entries_after}
use Rattle.texts.proofs.said.entries_in.Given as goal

-- the entries so far, and those of the lines that are left, are those of all lines
abbrev pub invariant-loop-entries : goal.invariant-loop-entries
invariant-loop-entries g l = record {
  told : entries_after l.entries.items
      (entries_from (g.F.Form.entry_of l.form) l.number (lines_of l.rest))
      ≡ entries_from (g.F.Form.entry_of l.form) l.first (lines_of l.text);
  numbered : l.number + length l.rest ≤ length l.text + l.first;
}

abbrev pub decreases-loop-entries : goal.decreases-loop-entries
decreases-loop-entries g l = length l.rest
