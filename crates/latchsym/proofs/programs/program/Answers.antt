use Rattle.latchsym.proofs.Words.{Err, inr, OutOfMemory}
use Rattle.latchsym.proofs.programs.program.Goals as goal

pub returns-in_default : goal.returns-in_default
returns-in_default g c =
    rw c.in-Ok.is (Err OutOfMemory, inr tt, c.refuse-in_default.ensures)
