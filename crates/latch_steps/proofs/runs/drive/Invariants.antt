use Rattle.latch_steps.proofs.Definitions.{◌≡◌, false, true, take, capacity_of, Keeps, opening}
use Rattle.latch_steps.proofs.RecordingLemmas.{Obeyed}
use Rattle.latch_steps.proofs.runs.drive.Given as goal

-- the events of the commands before this one were done and recorded
abbrev pub invariant-loop-command : goal.invariant-loop-command
invariant-loop-command g l = record {
  obeyed : Obeyed g.O.TreeOrder.order (Keeps true) (opening (capacity_of l.fn.l) l.start)
      l.initial.world l.world l.initial.recording l.recording (take l.command-index l.commands);
  whole : l.recording.ran_out ≡ false;
}
