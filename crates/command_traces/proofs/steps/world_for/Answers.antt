use Rattle.command_traces.proofs.Words.{◌∙◌, rules, ap, subst, capacity_of, limit_of, opening}
use Rattle.command_traces.proofs.Words.{RepresentsMoment, HeaderMayOpen}
use Rattle.command_traces.proofs.steps.world_for.Goals as goal

pub returns-clause-opened : goal.returns-clause-opened
returns-clause-opened g c =
    let opens : HeaderMayOpen c.args.header = search rules in
    record {
      opens = opens;
      capacity = ap capacity_of c.in_ok-world.ensures.layout ∙ c.in_ok-layout.ensures.capacity;
      limit = ap limit_of c.in_ok-world.ensures.layout ∙ c.in_ok-layout.ensures.limit;
      shows = subst (λ n.
          RepresentsMoment g.O.TreeOrder.order c.in_ok-world.world (opening n c.args.header.start))
          c.in_ok-layout.ensures.capacity c.in_ok-world.ensures.shows;
    }
