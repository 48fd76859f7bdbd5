-- One more reader of a table.
use Rattle.std.specs.Prelude.{◌≡◌, ◌⊎◌, ◌+◌, ◌<◌, ◌≤◌}
use Rattle.order_laws.specs.declared.refusals.Refusal.{Refusal}
use Rattle.order_laws.specs.declared.refusals.Refusal.TheVariants.{BadCapacity, OutOfMemory}
use Rattle.latch_table.specs.Enlarging.{reader_beside}
use Rattle.latch_table.specs.Limits.{most_readers_in_all}
use Rattle.latch_table.specs.Readers.{ReaderState}
use Rattle.latch_table.specs.Writers.{WriterState}

-- the reader has loaded nothing, and will know at least what was shown; the writer has one reader
-- more, and is else as before
pub record AddsReader (w w' : WriterState) (r : ReaderState) : Type 0 where
  pub few : w.readers < most_readers_in_all
  pub writer : w' ≡ record w { readers = w.readers + 1 }
  pub reader : r ≡ reader_beside w

-- the table has as many readers as it may have; or else memory was refused
abbrev pub RefusesReader : WriterState → Refusal → Type 0
RefusesReader w e =
    ((e ≡ BadCapacity) × (most_readers_in_all ≤ w.readers))
    ⊎ ((e ≡ OutOfMemory) × (w.readers < most_readers_in_all))
