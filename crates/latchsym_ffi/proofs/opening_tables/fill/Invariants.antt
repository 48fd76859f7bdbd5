use Rattle.latchsym_ffi.proofs.Words.{All, ◌≡◌, ◌+◌, length, AllWithin, ReaderState, HoldsReader}
use Rattle.latchsym_ffi.proofs.Words.{Reader}
use Rattle.latchsym_ffi.proofs.opening_tables.fill.Given as goal

abbrev pub invariant-loop-place : goal.invariant-loop-place
invariant-loop-place l =
    record {
      count : length l.handles ≡ length l.initial.handles;
      left : length l.readers.items + l.place ≡ length l.handles;
      each : (r : ReaderState) → All (λ b. b.value ≡ Reader r) l.fn.readers.items
          → All (λ b. b.value ≡ Reader r) l.readers.items;
      filled : (r : ReaderState) → All (λ b. b.value ≡ Reader r) l.fn.readers.items
          → AllWithin (HoldsReader r) l.handles 0 l.place;
    }
