use Rattle.modules.proofs.Words.{◌≡◌, take}
use Rattle.modules.proofs.Definitions.{marks_of}
use Rattle.modules.specs.SharedRuns.{lines_of_shared}
use Rattle.modules.proofs.line_marks.marks_of.Given as goal

abbrev pub invariant-loop-run : goal.invariant-loop-run
invariant-loop-run l =
    l.marks.items ≡ marks_of l.kernel l.numbers (lines_of_shared (take l.run-index l.runs))
