use Rattle.modules.proofs.Words.{ℕ, List, take, sym, ◌∙◌, arith, length-append, common_steps}
use Rattle.modules.proofs.Words.{get_or_default}
use Rattle.modules.proofs.Definitions.{starts_of, Core}
use Rattle.modules.proofs.LoadLemmas.{other_more, wanted_more}
use Rattle.modules.proofs.loads.only_start.Goals as goal
use Rattle.modules.proofs.loads.only_start.Goals.{then-is_of, else-is_of}

pub loop-place-preserved : goal.loop-place-preserved
loop-place-preserved c =
    let regions = c.args.regions.now in
    let parts = c.args.parts.now in
    let place = c.loop-place.place in
    let i = c.loop-place.invariant in
    let before : List ℕ =
    starts_of c.args.core c.args.init (take place regions) (take place parts) in
    elim c.if-is_of.branch [
      | then-is_of w ↦
          let more = wanted_more c.args.core c.args.init regions parts place (0, 0) Core
          (omega (arith, c.requires)) (omega arith) (sym c.is_of.ensures ∙ w.if-is_of.true) in
          rw (w.count-is, w.last-is) (grind (arith, common_steps, length-append, get_or_default))
      | else-is_of w ↦
          let same = other_more c.args.core c.args.init regions parts place (0, 0) Core
          (omega (arith, c.requires)) (omega arith) (sym c.is_of.ensures ∙ w.if-is_of.false) in
          rw (w.count-is, w.last-is) (grind (arith, common_steps))
    ]
