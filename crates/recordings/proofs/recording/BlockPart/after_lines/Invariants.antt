use Rattle.recordings.proofs.Words.{◌≡◌, length, fold, after_line}
use Rattle.recordings.proofs.recording.BlockPart.after_lines.Given as goal

-- what is written so far, and of the rest
abbrev pub invariant-loop-rest : goal.invariant-loop-rest
invariant-loop-rest l =
    fold (after_line l.block) l.part l.rest ≡ fold (after_line l.block) l.fn.self l.said

abbrev pub decreases-loop-rest : goal.decreases-loop-rest
decreases-loop-rest l = length l.rest
