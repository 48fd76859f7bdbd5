use Rattle.logs.proofs.Definitions.{◌≤◌, length, SameAddresses, is_begun, words_behind, words_from}
use Rattle.std.proofs.Common.{◌-◌, drop}
use Rattle.logs.proofs.words.next_candidate.Given as goal

abbrev pub invariant-loop-start : goal.invariant-loop-start
invariant-loop-start l = record {
  low : l.at ≤ l.from;
  from : l.from ≤ l.start;
  within : l.start ≤ length l.line;
  left : SameAddresses l.narrow l.line (words_behind l.line l.at)
      (words_from l.start (is_begun l.line l.from l.start) (drop l.start l.line));
}

abbrev pub decreases-loop-start : goal.decreases-loop-start
decreases-loop-start l = length l.line - l.start
