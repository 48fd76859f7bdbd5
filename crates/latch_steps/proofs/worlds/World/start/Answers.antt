use Rattle.latch_steps.proofs.Definitions.{Some, ◌∙◌, sym, None-from_is_none}
use Rattle.latch_steps.proofs.WorldLemmas.{busy, starts, lookup_set}
use Rattle.latch_steps.proofs.worlds.World.start.Goals as goal

pub returns-then-is_looking-clause-steps : goal.returns-then-is_looking-clause-steps
returns-then-is_looking-clause-steps g c =
    busy g.O.TreeOrder.order c.args.self.now c.args.reader _ c.args.key
    (sym c.is_looking.ensures ∙ c.if-is_looking.true) c.counted_up-self.ensures

pub returns-in-Ok-clause-steps : goal.returns-in-Ok-clause-steps
returns-in-Ok-clause-steps g c =
    starts g.O.TreeOrder.order c.args.self.now c.args.reader c.counted_up-first.result
    c.args.key c.start-lookup.result c.insert.new.self
    (None-from_is_none _ (sym c.is_looking.ensures ∙ c.if-is_looking.false)) c.start-lookup.ensures
    (lookup_set c.args.self.now.lookups c.insert.new.self c.args.reader (Some c.start-lookup.result)
    c.in-Ok.ensures.updates.0)
    c.counted_up-first.ensures
