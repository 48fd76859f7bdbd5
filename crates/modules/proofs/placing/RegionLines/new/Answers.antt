use Rattle.modules.proofs.Words.{◌≡◌, ◌∙◌, ap, sym, arith, common_steps}
use Rattle.modules.proofs.Definitions.{lines_at, lines_named}
use Rattle.modules.proofs.ByNameLemmas.{named_at}
use Rattle.modules.proofs.placing.RegionLines.new.Goals as goal

pub invariant_of-result : goal.invariant_of-result
invariant_of-result c =
    let before = c.in_ok-by_name.by_name.items in
    let after = c.sort_by_name.new.index.items in
    let listed : lines_at before ≡ c.args.listed.now = grind (arith, common_steps) in
    record {
      sorted = c.in_ok-sort_by_name.ensures.rises;
      listed = λ name. named_at name after ∙ ap lines_at (c.in_ok-sort_by_name.ensures.each name)
          ∙ sym (named_at name before) ∙ ap (lines_named name) listed;
    }
