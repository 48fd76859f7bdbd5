use Rattle.latch_core.proofs.Words.{false, refl, sym, ◌∙◌, arith, all_valid, some_overlap}
use Rattle.latch_core.proofs.Words.{common_steps}
use Rattle.latch_core.proofs.ClashLemmas.{overlap_on, at_most_one}
use Rattle.latch_core.proofs.clashes.has_overlapping_neighbours.Goals as goal

pub loop-place-preserved : goal.loop-place-preserved
loop-place-preserved g c = grind (arith, common_steps, overlap_on, all_valid)

pub returns : goal.returns
returns g c =
    sym (at_most_one (some_overlap g.O.TreeOrder.order) false refl (λ x. refl) c.args.items.now _
    (omega (arith, c.loop-place.invariant.some, c.loop-place-test.false)))
    ∙ c.loop-place.invariant.same
