-- What the enlarging of a table gives.
use Rattle.std.specs.Prelude.{◌≡◌, ℕ, ◌<◌, ◌≤◌, ◌⊎◌, All, List, length}
use Rattle.order_laws.specs.declared.refusals.Refusal.{Refusal}
use Rattle.order_laws.specs.declared.refusals.Refusal.TheVariants.{BadCapacity}
use Rattle.order_laws.specs.Refusals.{refusal_number}
use Rattle.word_layout.specs.declared.layouts.Layout.{Layout}
use Rattle.word_layout.specs.Limits.{most_nodes}
use Rattle.latch_table.specs.Enlarging.{Enlarges, RefusesEnlarging, reader_beside}
use Rattle.latch_table.specs.Readers.{ReaderState}
use Rattle.latch_table.specs.Writers.{WriterState}
use Rattle.latchsym_ffi.specs.declared.handles.Handle.{Handle}
use Rattle.latchsym_ffi.specs.Handles.{HoldsReader}
use Rattle.latchsym_ffi.specs.Kinds.{reader_kind}
use Rattle.latchsym_ffi.specs.Tables.{IsWide}

-- so many handles, and a reader in each
abbrev pub AreReaders : ℕ → List Handle → Type 0
AreReaders count handles = (length handles ≡ count) × All (λ h. h.kind ≡ reader_kind) handles

-- as many as the writer has readers
abbrev pub AreItsReaders : WriterState → List Handle → Type 0
AreItsReaders w handles = AreReaders w.readers handles

-- the writer goes on with this many nodes, and with these readers
pub record IsMoved (nodes : ℕ) (w w' : WriterState) (readers : List ReaderState) : Type 0 where
  pub layout : Layout
  pub wide : IsWide nodes layout
  pub enlarges : Enlarges w layout w' readers

-- the writer goes on with this many nodes, and each of the handles holds one of its readers
pub record IsEnlarged (nodes : ℕ) (w w' : WriterState) (handles : List Handle) : Type 0 where
  pub readers : List ReaderState
  pub moved : IsMoved nodes w w' readers
  pub each : All (HoldsReader (reader_beside w')) handles

-- the number of nodes is none of a table, or else the writer refuses them
abbrev pub RefusesMoving : ℕ → WriterState → Refusal → Type 0
RefusesMoving nodes w e =
    ((e ≡ BadCapacity) × ((0 < nodes) × (nodes ≤ most_nodes) → ⊥))
    ⊎ ((l : Layout) × IsWide nodes l × RefusesEnlarging w l e)

-- the handles hold other readers, or else the number is of such a refusal
abbrev pub RefusesNodes : ℕ → WriterState → List Handle → ℕ → Type 0
RefusesNodes nodes w handles result =
    ((result ≡ 101) × (AreItsReaders w handles → ⊥))
    ⊎ (AreItsReaders w handles
    × ((e : Refusal) × (result ≡ refusal_number e) × RefusesMoving nodes w e))
