use Rattle.latch_steps.proofs.Definitions.{◌∙◌, sym, arith}
use Rattle.latch_steps.proofs.ReportLemmas.{writing_all, writing_more, writing_last}
use Rattle.latch_steps.proofs.worlds.World.write_on.Goals as goal

pub loop-turn-preserved : goal.loop-turn-preserved
loop-turn-preserved g c = record {
  layout = c.step_reported-reply.ensures.layout ∙ c.loop-turn.invariant.layout;
  writes = λ d is w s.
      writing_more (c.loop-turn.invariant.writes d is w s) c.step_reported-reply.ensures.steps
      c.step_reported-reply.ensures.reported (sym is.0)
      (λ v t. c.ends.ensures v t ∙ sym (is.1 c.step_reported-reply.result v)) c.if-ends.false;
}

pub returns-after-loop-turn-clause-written : goal.returns-after-loop-turn-clause-written
returns-after-loop-turn-clause-written g c = λ d is w s.
    writing_all (c.loop-turn.invariant.writes d is w s) (omega arith)

pub returns-then-ends-clause-written : goal.returns-then-ends-clause-written
returns-then-ends-clause-written g c = λ d is w s.
    writing_last (c.loop-turn.invariant.writes d is w s) c.step_reported-reply.ensures.steps
    c.step_reported-reply.ensures.reported (sym is.0) (λ v t. c.ends.ensures v t
    ∙ sym (is.1 c.step_reported-reply.result v)) c.args.most (omega arith) c.if-ends.true
