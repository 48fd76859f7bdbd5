-- A table with the log of its updates.
use Rattle.std.specs.Prelude.{◌≡◌, ◌⊎◌, ℕ, ◌+◌, ◌*◌, List, [], ◌∷◌, ◌++◌, length, take, slice_get}
use Rattle.std.specs.Prelude.{false, Option, Some, None}
use Rattle.std.specs.Option.{ForSome}
use Rattle.atomic_table.specs.Seated.{TableId}
use Rattle.order_laws.specs.declared.items.Item.{Item}
use Rattle.order_laws.specs.declared.refusals.Refusal.{Refusal}
use Rattle.order_laws.specs.declared.refusals.Refusal.TheVariants.{OutOfMemory}
use Rattle.order_laws.specs.Orders.{half_open}
use Rattle.word_layout.specs.declared.layouts.Layout.{Layout}
use Rattle.word_layout.specs.Layouts.{capacity_of, limit_of}
use Rattle.table_updates.specs.declared.updates.Update.{Update}
use Rattle.latch_core.specs.Sequences.{generation_of}
use Rattle.latch_core.specs.Writers.{MayOpen}
use Rattle.table_updates.specs.Updates.{refusal_for, replay}
use Rattle.latch_table.specs.Writers.{WriterState, shown_updates, writer_refusal}

-- A ledger, as clauses see it: its table, how many readers came with it, the opening generation,
-- the number of nodes and the greatest sequence, and every accepted update in order
pub record LedgerState : Type 0 where
  pub place : TableId
  pub readers : ℕ
  pub base : ℕ
  pub capacity : ℕ
  pub limit : ℕ
  pub log : List Update

-- the table is the one that is named, if one is
abbrev pub IsNamed : Option TableId → TableId → Type 0
IsNamed named place = ForSome named (λ table. place ≡ table)

-- the table after the updates of the log
abbrev pub ledger_table : LedgerState → List Item
ledger_table l = replay half_open [] l.log

-- the generation, and the sequence that names it
abbrev pub ledger_generation : LedgerState → ℕ
ledger_generation l = l.base + length l.log

abbrev pub ledger_sequence : LedgerState → ℕ
ledger_sequence l = 2 * ledger_generation l

-- why an update is refused, or none
abbrev pub refusal_at : LedgerState → Update → Option Refusal
refusal_at l u =
    refusal_for half_open l.capacity l.limit false (ledger_table l) (ledger_sequence l) u

-- with one update more at the end of the log
abbrev pub with_entry : Update → LedgerState → LedgerState
with_entry u l = record l { log = l.log ++ u ∷ [] }

-- with the first updates of the log alone
abbrev pub with_first : ℕ → LedgerState → LedgerState
with_first count l = record l { log = take count l.log }

-- nothing is against the update, and it is the last of the log, whose generation this is
abbrev pub Applies : Update → LedgerState → LedgerState → ℕ → Type 0
Applies u l l' g = (refusal_at l u ≡ None) × (l' ≡ with_entry u l) × (g ≡ ledger_generation l')

-- what is against an update, or out of memory
abbrev pub RefusesEntry : Update → LedgerState → Refusal → Type 0
RefusesEntry u l e = (refusal_at l u ≡ Some e) ⊎ (e ≡ OutOfMemory)

-- what is against an update, or out of memory if nothing is
abbrev pub RefusesUpdate : Update → LedgerState → Refusal → Type 0
RefusesUpdate u l e = (refusal_at l u ≡ Some e) ⊎ ((refusal_at l u ≡ None) × (e ≡ OutOfMemory))

-- nothing stood against any update of the log when its turn came
abbrev pub AreAccepted : LedgerState → Type 0
AreAccepted l =
    (j : ℕ) (u : Update) → slice_get l.log j ≡ Some u → refusal_at (with_first j l) u ≡ None

-- a new ledger
abbrev pub new_ledger : TableId → Layout → ℕ → ℕ → LedgerState
new_ledger place l start readers =
    record {
      place = place;
      readers = readers;
      base = generation_of start;
      capacity = capacity_of l;
      limit = limit_of l;
      log = [];
    }

-- a writer with all that it accepted as the log
abbrev pub ledger_of : WriterState → LedgerState
ledger_of w =
    record {
      place = w.place;
      readers = w.readers;
      base = w.base;
      capacity = w.capacity;
      limit = w.limit;
      log = w.history;
    }

-- a writer with no pending update: it has shown all that it accepted, and nothing stood against any
-- of it
pub record HasNothingPending (w : WriterState) : Type 0 where
  pub rests : w.latch.pending ≡ None
  pub shown : shown_updates w ≡ w.history
  pub accepted : AreAccepted (ledger_of w)

-- no update is pending, the log is what the writer accepted, and its table was opened with
-- the layout at the opening sequence
pub record IsLedger (w : WriterState) (log : List Update) (l : Layout) (start : ℕ) : Type 0 where
  pub rests : HasNothingPending w
  pub logged : log ≡ w.history
  pub capacity : w.capacity ≡ capacity_of l
  pub limit : w.limit ≡ limit_of l
  pub base : w.base ≡ generation_of start
  pub opened : MayOpen l start

-- the update was begun and all its steps were made; no update is pending, and all that was accepted
-- is shown
abbrev pub CarriesOut : WriterState → Update → WriterState → ℕ → Type 0
CarriesOut w u w' g =
    (writer_refusal half_open w u ≡ None)
    × (w' ≡ record w { history = w.history ++ u ∷ []; latch = w'.latch })
    × (w'.latch.pending ≡ None) × (shown_updates w' ≡ w'.history) × (g ≡ w.base + length w'.history)
