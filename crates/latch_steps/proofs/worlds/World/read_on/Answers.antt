use Rattle.latch_steps.proofs.Definitions.{◌∙◌, ap, sym, subst, refl, IsSome, option_flatten}
use Rattle.latch_steps.proofs.WorldLemmas.{lookup_set}
use Rattle.latch_steps.proofs.ReportLemmas.{held_obeys}
use Rattle.latch_steps.proofs.worlds.World.read_on.Goals as goal

pub returns-clause-reads : goal.returns-clause-reads
returns-clause-reads g c =
    let there =
    sym c.in-Some-take.is ∙ c.take.ensures.value ∙ ap option_flatten c.in-Some.ensures.value in
    let left = c.load_on-lookup.result.lookup in
    held_obeys g.O.TreeOrder.order (g.R.Report.reports c.args.report.now) c.args.self.now
    c.args.reader c.args.most c.in-Some-take.lookup there c.as_slice-words.result.now
    c.as_slice-words.ensures.value c.args.to.now c.load_on-lookup.new.to c.load_on-lookup.result _
    (lookup_set c.args.self.now.lookups (c.get_mut.follows.lender left) c.args.reader left
    ((c.get_mut.follows.holds left).3 (subst IsSome c.in-Some.ensures.value refl)).0)
    c.load_on-lookup.ensures
