use Rattle.latch_steps.proofs.Definitions.{◌∙◌, ◌++◌, ◌∷◌, [], refl, sym, ap, subst, arith}
use Rattle.latch_steps.proofs.Definitions.{take_all, take_push, capacity_of, AreShallow}
use Rattle.latch_steps.proofs.Definitions.{step_done, last_of, opening}
use Rattle.latch_steps.proofs.RecordingLemmas.{safe_trace, quiet_trace, near_trace, trace_of}
use Rattle.latch_steps.proofs.ReportLemmas.{none_reported, runs_reported}
use Rattle.latch_steps.proofs.RunLemmas.{events_append}
use Rattle.latch_steps.proofs.runs.run.Goals as goal

pub loop-event-init : goal.loop-event-init
loop-event-init g c = record {
  done = ([], none_reported c.in_ok-world.ensures.shows, refl);
  whole = c.in_ok-recording.ensures.whole;
}

pub loop-event-preserved : goal.loop-event-preserved
loop-event-preserved g c =
    let w0 = opening (capacity_of c.args.l) c.args.start in
    let (run, done, events) = c.loop-event.invariant.done in
    let (next, one) = c.step_reported-reply.ensures.reported (sym c.is_refused_for_memory.ensures
    ∙ c.if-is_refused_for_memory.false) (last_of w0 run) done.shows in
    let d = step_done c.event-item.result c.step_reported-reply.result next in
    record {
      done = (
        run ++ d ∷ [],
        runs_reported done one,
        events_append run (d ∷ []) ∙ ap (λ es. es ++ c.event-item.result ∷ []) events
            ∙ take_push c.args.events.now c.loop-event.event-index c.event-item.result (omega arith)
            c.event-item.is,
      );
      whole = c.in_ok-unless_ran_out.ensures.whole;
    }

pub returns-clause-traces : goal.returns-clause-traces
returns-clause-traces g c =
    let h = c.loop-event.invariant.done in (
      h.0,
      trace_of c.args.l c.args.start c.of.result c.in_ok-world.ensures.layout
          c.in_ok-recording.ensures c.loop-event.invariant.whole c.of.ensures h.1,
    )

pub returns-clause-events : goal.returns-clause-events
unfolding returns-clause-traces
returns-clause-events g c =
    (returns-clause-traces g c).1.events ∙ c.loop-event.invariant.done.2
    ∙ take_all c.loop-event.event-index c.args.events.now (omega arith)

pub returns-clause-safe : goal.returns-clause-safe
returns-clause-safe g c =
    safe_trace g.met.O.TreeOrder.lawful c.in_ok-world.ensures.may c.of.ensures.few

pub returns-clause-quiet : goal.returns-clause-quiet
returns-clause-quiet g c =
    quiet_trace g.met.O.TreeOrder.lawful c.in_ok-world.ensures.may c.of.ensures.few

pub returns-clause-near : goal.returns-clause-near
unfolding returns-clause-traces
returns-clause-near g c =
    let (run, told) = returns-clause-traces g c in
    near_trace g.met.O.TreeOrder.lawful c.in_ok-world.ensures.may c.of.ensures.few told
    (subst (λ k. AreShallow (capacity_of k) run) c.in_ok-world.ensures.layout
    c.loop-event.invariant.done.1.shallow)
