use Rattle.latch_steps.proofs.ReportLemmas.{event_reported}
use Rattle.latch_steps.proofs.worlds.World.step_reported.Goals as goal

pub returns-then-not-is_refused_for_memory-clause-reported : goal.returns-then-not-is_refused_for_memory-clause-reported
returns-then-not-is_refused_for_memory-clause-reported g c = λ stays.
    event_reported c.step_from-reply.ensures.steps stays c.step_from-reply.ensures.layout
    c.load_by-load.ensures c.events.ensures c.sequence.ensures c.report.ensures
