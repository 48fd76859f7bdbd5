use Rattle.latchsym_ffi.proofs.Words.{All, ◌≡◌, ◌+◌, length, AllWithin, ReaderState, HoldsReader}
use Rattle.latchsym_ffi.proofs.Words.{reader_kind}
use Rattle.latchsym_ffi.proofs.enlarging.replace_readers.Given as goal

abbrev pub invariant-loop-place : goal.invariant-loop-place
invariant-loop-place l =
    record {
      count : length l.handles ≡ length l.initial.handles;
      left : length l.readers.items + l.place ≡ length l.handles;
      open_ones : All (λ h. h.kind ≡ reader_kind) l.handles;
      each : (r : ReaderState) → All (λ x. x ≡ r) l.fn.readers.items
          → All (λ x. x ≡ r) l.readers.items;
      filled : (r : ReaderState) → All (λ x. x ≡ r) l.fn.readers.items
          → AllWithin (HoldsReader r) l.handles 0 l.place;
    }
