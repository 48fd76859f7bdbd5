use Rattle.latch_steps.proofs.Definitions.{subst, arith, take_all, capacity_of}
use Rattle.latch_steps.proofs.Definitions.{opening, Expand, AreShallow}
use Rattle.latch_steps.proofs.RecordingLemmas.{obeyed_none, obeyed_more, safe_trace, quiet_trace}
use Rattle.latch_steps.proofs.RecordingLemmas.{near_trace, trace_of}
use Rattle.latch_steps.proofs.runs.drive.Goals as goal

pub loop-command-init : goal.loop-command-init
loop-command-init g c = record {
  obeyed = obeyed_none c.in_ok-world.ensures.shows;
  whole = c.in_ok-recording.ensures.whole;
}

pub loop-command-preserved : goal.loop-command-preserved
loop-command-preserved g c = record {
  obeyed =
      obeyed_more c.args.commands.now c.loop-command.command-index (omega arith) c.command-item.is
      c.loop-command.invariant.obeyed c.in_ok-obey.ensures.obeyed;
  whole = c.in_ok-unless_ran_out.ensures.whole;
}

pub returns-clause-expands : goal.returns-clause-expands
returns-clause-expands g c =
    let h = c.loop-command.invariant.obeyed in
    let all = take_all c.loop-command.command-index c.args.commands.now (omega arith) in (
      h.run,
      trace_of c.args.l c.args.start c.of.result c.in_ok-world.ensures.layout
          c.in_ok-recording.ensures c.loop-command.invariant.whole c.of.ensures h.reported,
      subst (λ cs. Expand (opening (capacity_of c.args.l) c.args.start) cs h.run) all h.expands,
    )

pub returns-clause-safe : goal.returns-clause-safe
returns-clause-safe g c =
    safe_trace g.met.O.TreeOrder.lawful c.in_ok-world.ensures.may c.of.ensures.few

pub returns-clause-quiet : goal.returns-clause-quiet
returns-clause-quiet g c =
    quiet_trace g.met.O.TreeOrder.lawful c.in_ok-world.ensures.may c.of.ensures.few

pub returns-clause-near : goal.returns-clause-near
unfolding returns-clause-expands
returns-clause-near g c =
    let (run, told, expands) = returns-clause-expands g c in
    near_trace g.met.O.TreeOrder.lawful c.in_ok-world.ensures.may c.of.ensures.few told
    (subst (λ k. AreShallow (capacity_of k) run) c.in_ok-world.ensures.layout
    c.loop-command.invariant.obeyed.reported.shallow)
