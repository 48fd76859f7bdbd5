use Rattle.latchsym_ffi.proofs.Words.{option_map, without_letter, ◌≡◌, All, Some, length, map}
use Rattle.latchsym_ffi.proofs.Words.{slice_get, take, index_entries_of, entry_of_row}
use Rattle.latchsym_ffi.proofs.Words.{symbol_of_row}
use Rattle.latchsym_ffi.proofs.flattening.list.Given as goal

abbrev pub invariant-loop-place : goal.invariant-loop-place
invariant-loop-place l =
    (length l.rows ≡ length l.initial.rows)
    × (map entry_of_row (take l.place l.rows) ≡ take l.place (index_entries_of l.symbols))
    × All (λ r. option_map without_letter (slice_get l.symbols r.place) ≡ Some (symbol_of_row r))
    (take l.place l.rows)
