use Rattle.latch_table.proofs.Words.{rules, ap, ◌∙◌}
use Rattle.latch_table.proofs.RuleLemmas.{splits_another}
use Rattle.latch_table.proofs.opening.build.Goals as goal

pub split_seat-place-requires : goal.split_seat-place-requires
split_seat-place-requires g c = (
  search rules,
  search rules,
  splits_another g.O.TreeOrder.order _ _ _ _ _
      (ap (λ m. m.0.writer) c.loop.invariant.2 ∙ ap (λ v. v.writer) c.requires.writer),
)
