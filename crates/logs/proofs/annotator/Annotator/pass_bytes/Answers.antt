use Rattle.logs.proofs.Definitions.{◌∙◌, [], ◌++◌, ℕ, List, refl, sym, ap, append_assoc}
use Rattle.logs.proofs.KernelReportLemmas.{part_says_at_most}
use Rattle.logs.proofs.LineLemmas.{adds_nothing, then_adds}
use Rattle.logs.proofs.annotator.Annotator.pass_bytes.Goals as goal

pub loop-line-init : goal.loop-line-init
loop-line-init g c = (
  c.of-said.ensures,
  [],
  refl,
  adds_nothing (g.A.Answers.answering c.args.answers.now) c.args.self.now c.args.out.now.items,
)

-- a line says no more than the bytes
pub pass_line-requires-clause-said : goal.pass_line-requires-clause-said
pass_line-requires-clause-said g c =
    let (said, done, parts, adds) = c.loop-line.invariant in
    part_says_at_most c.of-said.result done c.in-Some.line.now c.in-Some.more.now
    (rw (parts ∙ ap (λ (l : List ℕ). done ++ l) c.in-Some.ensures.parts) at said)

pub loop-line-preserved : goal.loop-line-preserved
loop-line-preserved g c =
    let (said, done, parts, adds) = c.loop-line.invariant in (
      said,
      done ++ c.in-Some.line.now,
      parts ∙ ap (λ (l : List ℕ). done ++ l) c.in-Some.ensures.parts
          ∙ sym (append_assoc done c.in-Some.line.now c.in-Some.more.now),
      then_adds (g.A.Answers.answering c.args.answers.now) _ _ _ _ _ _ _ _ adds
          c.in_ok-pass_line-in-Some.ensures,
    )

pub returns-in-None : goal.returns-in-None
returns-in-None g c =
    let answer = g.A.Answers.answering c.args.answers.now in
    let (_, done, parts, adds) = c.loop-line.invariant in
    rw parts (then_adds answer _ _ _ _ _ _ _ _ adds (c.in_ok-hold-in-None.ensures answer))
