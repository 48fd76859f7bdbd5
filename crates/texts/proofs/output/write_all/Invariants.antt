use Rattle.texts.proofs.Words.{◌≡◌, ◌-◌, ◌≤◌, false, length, take, Appends, error_kept, is_broken}
use Rattle.texts.proofs.Words.{writer_in}
use Rattle.texts.proofs.output.write_all.Given as goal

-- no call failed, and the writer took this many bytes
abbrev pub invariant-loop-taken : goal.invariant-loop-taken
invariant-loop-taken g l = record {
  within : l.taken ≤ length l.bytes;
  sound : is_broken l.device ≡ false;
  error : error_kept l.device ≡ error_kept l.fn.device;
  took : Appends (g.W.Write.contents (writer_in l.fn.device))
      (g.W.Write.contents (writer_in l.device)) (take l.taken l.bytes);
}

abbrev pub decreases-loop-taken : goal.decreases-loop-taken
decreases-loop-taken g l = length l.bytes - l.taken
