-- A pointer may go to another thread where the content may. Assumes nothing.
use Rattle.latchsym_ffi.proofs.Words.{Option, Some, None, Global, lies, owns_content, Content}
use Rattle.latchsym_ffi.proofs.Words.{IsSend}
use mir.Raw.{raw}
use base.Shift.{Keyless}
use denote.Memory.{lone}
use denote.RawPtr.{Ptr}
use Rattle.std.proofs.Crossing as heap
use Rattle.latchsym_ffi.specs.contracts.contents.Content.{the_row}

pub owned_keyless : IsSend the_row → (a : Global) (p : Ptr) (x : Option Content)
    → Keyless (owns_content a p x)
owned_keyless s a p None = tt
owned_keyless s a p (Some x) = (lies the_row s p x, heap.frees.frees a (raw (lone the_row.mir)) p)
