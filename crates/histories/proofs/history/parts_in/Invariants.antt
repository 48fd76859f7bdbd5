use Rattle.histories.proofs.Words.{◌≡◌, ◌<◌, ◌+◌, ◌^◌, ◌++◌, None, length, lines, first_bad}
use Rattle.histories.proofs.Words.{parts_of}
use Rattle.histories.specs.Readings.{BeginsPart}
use Rattle.histories.proofs.history.parts_in.Given as goal

-- the parts so far and those of the rest, in which the first line is that is not understood
abbrev pub invariant-loop-rest : goal.invariant-loop-rest
invariant-loop-rest l = record {
  parts : l.parts.items ++ parts_of (lines l.rest) ≡ parts_of (lines l.text);
  bad : first_bad l.before l.number (lines l.rest) ≡ first_bad None l.first (lines l.text);
  numbered : l.number + length l.rest < 2 ^ 64;
  begins : BeginsPart l.before l.rest;
}

abbrev pub decreases-loop-rest : goal.decreases-loop-rest
decreases-loop-rest l = length l.rest
