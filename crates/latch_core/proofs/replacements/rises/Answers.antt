use Rattle.latch_core.proofs.Words.{refl, sym, ◌∙◌, arith, is_rising, true, common_steps}
use Rattle.latch_core.proofs.ReplacementLemmas.{rising_on}
use Rattle.latch_core.proofs.ClashLemmas.{one_place_on, at_most_one}
use Rattle.latch_core.proofs.replacements.rises.Goals as goal

pub loop-place-preserved : goal.loop-place-preserved
loop-place-preserved g c = grind (arith, common_steps, one_place_on, rising_on)

pub returns : goal.returns
returns g c =
    sym (at_most_one (is_rising g.O.TreeOrder.order) true refl (λ x. refl) c.args.items.now _
    (omega (arith, c.loop-place.invariant.some, c.loop-place-test.false)))
    ∙ c.loop-place.invariant.same
