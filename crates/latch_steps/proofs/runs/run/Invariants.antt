use Rattle.latch_steps.proofs.Definitions.{false, true, ◌≡◌, List, take, capacity_of, Done, opening}
use Rattle.latch_steps.proofs.Definitions.{events_of, Keeps, IsReportedRun}
use Rattle.latch_steps.proofs.runs.run.Given as goal

-- the events before this one were done and recorded
abbrev pub invariant-loop-event : goal.invariant-loop-event
invariant-loop-event g l = record {
  done : (run : List (Done g.row.O-Key.Denot))
      × IsReportedRun g.O.TreeOrder.order (Keeps true) l.initial.world l.world l.initial.recording
      l.recording (opening (capacity_of l.fn.l) l.start) run
      × (events_of run ≡ take l.event-index l.events);
  whole : l.recording.ran_out ≡ false;
}
