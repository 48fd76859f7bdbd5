use Rattle.latchsym_ffi.proofs.FlatteningLemmas.{rising_starts}
use Rattle.latchsym_ffi.proofs.flattening.rows_of.Goals as goal

pub invariant_of-result : goal.invariant_of-result
invariant_of-result c = record { rising = rising_starts _ _ _ c.lay_out.ensures }
