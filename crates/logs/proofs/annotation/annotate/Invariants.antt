use Rattle.logs.proofs.Definitions.{◌≡◌}
use Rattle.logs.proofs.AnnotationLemmas.{IsOn}
use Rattle.logs.proofs.annotation.annotate.Given as goal

abbrev pub invariant-loop-turn : goal.invariant-loop-turn
invariant-loop-turn g l =
    (g.A.Answers.answering l.answers ≡ g.A.Answers.answering l.fn.answers)
    × IsOn g.R.Read.remaining g.W.Write.contents (g.A.Answers.answering l.fn.answers) l.fn.reader
    l.reader l.fn.writer l.writer l.annotator l.head.items l.turn
