use Rattle.command_traces.proofs.Words.{rules, [], refl, HeaderMayOpen}
use Rattle.command_traces.proofs.trace.driver_for.Goals as goal

pub returns-clause-opened : goal.returns-clause-opened
returns-clause-opened g c =
    let opens : HeaderMayOpen c.args.header = search rules in
    record {
      opens = opens;
      layout = c.in_ok-layout.layout;
      capacity = c.in_ok-layout.ensures.capacity;
      limit = c.in_ok-layout.ensures.limit;
      notes = [];
      driven = c.in_ok-driver.ensures.driven;
      none = c.in_ok-driver.ensures.none;
      gathered = refl;
    }
