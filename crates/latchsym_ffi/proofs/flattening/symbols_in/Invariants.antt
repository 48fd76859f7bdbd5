use Rattle.latchsym_ffi.proofs.Words.{◌≡◌, length, symbols_below}
use Rattle.latchsym_ffi.proofs.flattening.symbols_in.Given as goal

abbrev pub invariant-loop-number : goal.invariant-loop-number
invariant-loop-number l = l.count ≡ length (symbols_below l.catalog l.number)
