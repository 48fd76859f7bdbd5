use Rattle.logs.proofs.Definitions.{◌≡◌, ◌++◌, List, ℕ, length, Adds, Passes}
use Rattle.logs.specs.KernelReports.{SaysAtMost}
use Rattle.logs.proofs.annotator.Annotator.pass_bytes.Given as goal

abbrev pub invariant-loop-line : goal.invariant-loop-line
invariant-loop-line g l =
    SaysAtMost l.said l.bytes × (done : List ℕ) × (l.bytes ≡ done ++ l.rest) × Adds l.fn.out.items
    l.out.items (Passes (g.A.Answers.answering l.fn.answers) l.fn.self l.self done)

abbrev pub decreases-loop-line : goal.decreases-loop-line
decreases-loop-line g l = length l.rest
