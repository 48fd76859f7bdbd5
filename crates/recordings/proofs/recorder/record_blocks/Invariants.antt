use Rattle.recordings.proofs.Words.{length, ◌<◌}
use Rattle.recordings.proofs.RecorderLemmas.{IsOn}
use Rattle.recordings.proofs.recorder.record_blocks.Given as goal

-- the events that were read so far are recorded
abbrev pub invariant-loop-turn : goal.invariant-loop-turn
invariant-loop-turn g l =
    IsOn g.W.Write.contents (g.L.LastingLog.seen l.fn.events) l.fn.writer
    (g.L.LastingLog.seen l.events) l.writer l.recording l.begun.items l.turn
    × (0 < length l.room)
