use Rattle.shared_lookup.proofs.LookedLemmas.{looked_once, looked_again}
use Rattle.shared_lookup.proofs.threads.look_until.Goals as goal

pub returns-in-Answered-clause-looked : goal.returns-in-Answered-clause-looked
returns-in-Answered-clause-looked g c =
    looked_once c.args.key c.args.seat.now.memory c.args.seat.now.knowledge
    c.look.new.self.knowledge c.in-Answered.item c.in-Answered.generation
    c.in-Answered.ensures.looked

pub returns-in-Retry-clause-looked : goal.returns-in-Retry-clause-looked
returns-in-Retry-clause-looked g c =
    looked_again c.args.key c.args.seat.now.memory c.args.seat.now.knowledge
    c.look.new.self.knowledge c.find.new.self.knowledge c.find.result c.in-Retry.ensures.looked
    c.find.ensures.found
