use denote.Struct.Struct.{exits_of}
use denote.Struct.Owning.{shape, fields, to}
use Rattle.latchsym_ffi.proofs.Words.{IsSend, AllSend, owning_send, struct_send, sendable, quiet}
use Rattle.std_heap.proofs.Global.TheSendSync as heap
use Rattle.latchsym_ffi.specs.contracts.pointers.ContentPointer.{the_row, the_type}
use Rattle.latchsym_ffi.proofs.contents.Content.TheSendSync.{the_send as content}
use Rattle.latchsym_ffi.proofs.Sent.{owned_keyless}

pub send : IsSend the_row
send =
    let all : AllSend (fields the_type) = (search sendable, (heap.the_field_send, tt)) in
    owning_send the_type all (λ d. owned_keyless content d.alloc d.at d.content)
    (λ k. quiet (to the_type) (exits_of k (fields the_type))
    ((struct_send (shape the_type) all).leaving k))
