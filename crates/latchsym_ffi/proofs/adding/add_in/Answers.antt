use Rattle.latchsym_ffi.proofs.Words.{OutOfMemory, rules}
use Rattle.latchsym_ffi.proofs.adding.add_in.Goals as goal

pub returns-in-Err-put_reader-clause-why : goal.returns-in-Err-put_reader-clause-why
returns-in-Err-put_reader-clause-why c refused = (OutOfMemory, search rules, search rules)
