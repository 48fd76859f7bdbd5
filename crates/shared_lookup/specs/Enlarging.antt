-- A ledger that goes on with more nodes, in another row of words.
use Rattle.std.specs.Prelude.{◌≡◌, ◌⊎◌, List, length, All}
use Rattle.atomic_table.specs.Seated.{TableId}
use Rattle.order_laws.specs.declared.refusals.Refusal.{Refusal}
use Rattle.order_laws.specs.declared.refusals.Refusal.TheVariants.{OutOfMemory, BadCapacity}
use Rattle.word_layout.specs.declared.layouts.Layout.{Layout}
use Rattle.word_layout.specs.Layouts.{capacity_of, limit_of}
use Rattle.latch_table.specs.Readers.{ReaderState}
use Rattle.latch_table.specs.Enlarging.{AreReadersAt, IsNoSmaller, reader_knowing}
use Rattle.shared_lookup.specs.Ledgers.{LedgerState}

-- these are the readers that came with the ledger
abbrev pub AreLedgerReaders : LedgerState → List ReaderState → Type 0
AreLedgerReaders w all = AreReadersAt w.readers w.place all

-- the layout is smaller; or else memory was refused
abbrev pub RefusesEnlargingLedger : LedgerState → Layout → Refusal → Type 0
RefusesEnlargingLedger w l e =
    ((e ≡ BadCapacity) × (IsNoSmaller w.capacity w.limit l → ⊥))
    ⊎ ((e ≡ OutOfMemory) × IsNoSmaller w.capacity w.limit l)

-- the ledger, with its log, in the words of another layout
abbrev pub enlarged_ledger : TableId → Layout → LedgerState → LedgerState
enlarged_ledger place l w =
    record w { place = place; capacity = capacity_of l; limit = limit_of l }

-- the ledger goes on in words of the layout, with as many readers as before; its log stays
pub record EnlargesLedger (w : LedgerState) (l : Layout) (w' : LedgerState) (all : List ReaderState)
    : Type 0 where
  pub may : IsNoSmaller w.capacity w.limit l
  pub state : w' ≡ enlarged_ledger w'.place l w
  pub count : length all ≡ w.readers
  -- beside it a reader knows at least the whole log
  pub readers : All (λ x. x ≡ reader_knowing w'.place w'.base w'.capacity w'.log) all
