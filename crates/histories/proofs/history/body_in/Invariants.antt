use Rattle.histories.proofs.Words.{◌≡◌, ◌≤◌, ◌-◌, ◌+◌, ◌++◌, Some, take, drop, length, lines}
use Rattle.histories.proofs.Words.{body_of, first_bad, parts_of}
use Rattle.histories.proofs.history.body_in.Given as goal

-- no header is before this place, and each line before it is understood
abbrev pub invariant-loop-i : goal.invariant-loop-i
invariant-loop-i l = record {
  within : l.i ≤ length l.text;
  numbered : l.number + length (drop l.i l.text) ≤ l.first + length l.text;
  body : take l.i l.text ++ body_of (lines (drop l.i l.text)) ≡ body_of (lines l.text);
  parts : parts_of (lines (drop l.i l.text)) ≡ parts_of (lines l.text);
  bad : first_bad (Some l.header) l.number (lines (drop l.i l.text))
      ≡ first_bad (Some l.header) l.first (lines l.text);
}

abbrev pub decreases-loop-i : goal.decreases-loop-i
decreases-loop-i l = length l.text - l.i
