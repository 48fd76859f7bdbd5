use Rattle.latch_steps.proofs.Definitions.{cond, ◌∙◌, ap, false, true, refl, sym}
use Rattle.latch_steps.proofs.ReportLemmas.{obeyed_writing}
use Rattle.latch_steps.proofs.RunLemmas.{within_is}
use Rattle.latch_steps.proofs.worlds.World.obey.Goals as goal

pub returns-after-is_writing-clause-obeyed : goal.returns-after-is_writing-clause-obeyed
returns-after-is_writing-clause-obeyed g c =
    obeyed_writing false c.if-is_writing.most c.in-Write.is (refl, λ reply w. refl)
    (λ w s. elim c.if-is_writing.branch [
      | goal.then-is_writing b ↦ b.most-is
          ∙ ap (λ x. cond x c.in-Write.most 0) (sym b.if-is_writing.true ∙ c.is_writing.ensures w s)
          ∙ within_is w.latch.pending c.in-Write.most
      | goal.else-is_writing b ↦ b.most-is ∙ ap (λ x. cond x c.in-Write.most 0)
          (sym b.if-is_writing.false ∙ c.is_writing.ensures w s)
          ∙ within_is w.latch.pending c.in-Write.most
    ])
    c.write_on.ensures.written

pub returns-in-WriteFlip-clause-obeyed : goal.returns-in-WriteFlip-clause-obeyed
returns-in-WriteFlip-clause-obeyed g c =
    obeyed_writing true c.writes_left-left.result c.in-WriteFlip.is (refl, λ reply w. refl)
    c.writes_left-left.ensures c.write_on-in-WriteFlip.ensures.written

pub returns-in-WriteEnd-clause-obeyed : goal.returns-in-WriteEnd-clause-obeyed
returns-in-WriteEnd-clause-obeyed g c =
    obeyed_writing false c.writes_left-left-in-WriteEnd.result c.in-WriteEnd.is
    (refl, λ reply w. refl) c.writes_left-left-in-WriteEnd.ensures
    c.write_on-in-WriteEnd.ensures.written
