use Rattle.logs.proofs.Definitions.{◌≡◌, ◌++◌, is_byte}
use Rattle.memchr.specs.Find.{places}
use Rattle.logs.specs.KernelReports.{with_places}
use Rattle.logs.proofs.kernel_reports.KernelReport.with_functions.Given as goal

abbrev pub invariant-loop-place : goal.invariant-loop-place
invariant-loop-place g l = record {
  can_next : (goal.iterator-loop-place g).can_next l.place-iterator;
  finite : (goal.iterator-loop-place g).is_finite l.place-iterator;
  gone : places (is_byte 43) l.line ≡ l.yielded ++ l.place-iterator;
  said : l.report ≡ with_places (g.A.Answers.answering l.answers) l.line l.fn.self l.yielded;
}
