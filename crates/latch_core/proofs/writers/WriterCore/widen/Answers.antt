use Rattle.latch_core.proofs.Words.{◌≡◌, sym, ◌∙◌, ap, subst, capacity_of, limit_of, Picture}
use Rattle.latch_core.proofs.Words.{WriterView, widened_writer, RepresentsWidened}
use Rattle.latch_core.proofs.WideningLemmas.{may_widen, widened_pictures}
use Rattle.latch_core.proofs.writers.WriterCore.widen.Goals as goal

pub returns-clause-pictures : goal.returns-clause-pictures
returns-clause-pictures g c =
    let w = c.args.self.now in
    let l = c.args.l in
    let s = c.self.inside in
    let may = may_widen w l (sym c.why_not_widened.ensures ∙ c.in_default.is) in
    let shape = c.widen.new.self in
    let widened = c.widen.ensures.widened in
    let table =
    ap (λ (p : Picture). p.table) widened ∙ ap (λ (v : WriterView). v.table) c.self.view_is in
    let zero = ap (λ (p : Picture). p.tree) widened
    ∙ ap (λ (v : WriterView). v.zero_tree) c.self.view_is in
    let one =
    ap (λ (p : Picture). p.tree) widened ∙ ap (λ (v : WriterView). v.one_tree) c.self.view_is in
    let shown : WriterView = record {
      capacity = capacity_of l;
      limit = limit_of l;
      sequence = s.sequence;
      table = shape.table;
      zero_tree = shape.tree;
      one_tree = shape.tree;
      stores_left = s.plan.stores_left;
    } in
    let same : shown ≡ widened_writer w l = λ i. record {
      capacity = capacity_of l;
      limit = limit_of l;
      sequence = (c.self.view_is i).sequence;
      table = table i;
      zero_tree = zero i;
      one_tree = one i;
      stores_left = (c.self.view_is i).stores_left;
    } in
    subst (RepresentsWidened w) (sym same) (widened_pictures w l may.0 may.1)
