use Rattle.latchsym_ffi.proofs.Words.{◌≡◌, ◌+◌, length, take, items_below, AreRowsBelow}
use Rattle.latchsym_ffi.proofs.Words.{symbols_below, symbols_of}
use Rattle.latchsym_ffi.proofs.flattening.put_all.Given as goal

abbrev pub invariant-loop-number : goal.invariant-loop-number
invariant-loop-number l =
    (length l.regions ≡ length l.initial.regions)
    × (l.rooms.place ≡ length (items_below l.catalog l.number))
    × (length l.rooms.symbols.now + length (symbols_below l.catalog l.number)
    ≡ length (symbols_of l.catalog))
    × (length l.rooms.addresses.now + length (symbols_below l.catalog l.number)
    ≡ length (symbols_of l.catalog))
    × AreRowsBelow l.catalog l.number (take l.rooms.place l.regions)
