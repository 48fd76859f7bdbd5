-- A writer that goes on with more nodes, in another row of words.
use Rattle.std.specs.Prelude.{◌≡◌, ◌⊎◌, ◌<◌, ◌≤◌, ℕ, List, [], length, All, None}
use Rattle.atomic_table.specs.Seated.{TableId}
use Rattle.order_laws.specs.declared.refusals.Refusal.{Refusal}
use Rattle.order_laws.specs.declared.refusals.Refusal.TheVariants.{OutOfMemory, BadCapacity}
use Rattle.order_laws.specs.declared.refusals.Refusal.TheVariants.{UpdateInHand}
use Rattle.word_layout.specs.declared.layouts.Layout.{Layout}
use Rattle.word_layout.specs.Layouts.{capacity_of, limit_of}
use Rattle.word_layout.specs.Words.{at}
use Rattle.table_updates.specs.declared.updates.Update.{Update}
use Rattle.latch_core.specs.Widening.{widened_latch}
use Rattle.latch_table.specs.Seats.{blank_reader}
use Rattle.latch_table.specs.Readers.{ReaderState}
use Rattle.latch_table.specs.Writers.{WriterState, shown_updates, steps_left_of}

-- these are `count` readers, all of the words at the place
abbrev pub AreReadersAt : ℕ → TableId → List ReaderState → Type 0
AreReadersAt count place all = (length all ≡ count) × All (λ x. x.place ≡ place) all

-- these are the readers that came with the writer
abbrev pub AreReadersOf : WriterState → List ReaderState → Type 0
AreReadersOf w all = AreReadersAt w.readers w.place all

-- the layout has no fewer nodes and no smaller greatest sequence than these
abbrev pub IsNoSmaller : ℕ → ℕ → Layout → Type 0
IsNoSmaller capacity limit l = (capacity ≤ capacity_of l) × (limit ≤ limit_of l)

abbrev pub MayEnlarge : WriterState → Layout → Type 0
MayEnlarge w l = (w.latch.pending ≡ None) × IsNoSmaller w.capacity w.limit l

-- an update is pending; or else the layout is smaller; or else memory was refused
abbrev pub RefusesEnlarging : WriterState → Layout → Refusal → Type 0
RefusesEnlarging w l e =
    ((e ≡ UpdateInHand) × (0 < steps_left_of w.latch.pending))
    ⊎ ((e ≡ BadCapacity) × (w.latch.pending ≡ None) × (IsNoSmaller w.capacity w.limit l → ⊥))
    ⊎ ((e ≡ OutOfMemory) × MayEnlarge w l)

-- the updates, shown and accepted, and the table, in the words of another layout; the words of the
-- new nodes are 0
abbrev pub enlarged_state : TableId → Layout → WriterState → WriterState
enlarged_state place l w =
    record w {
      place = place;
      capacity = capacity_of l;
      limit = limit_of l;
      latch = widened_latch w.capacity (capacity_of l) w.latch;
      loads = [];
    }

-- a reader of the words at the place that has loaded and remembers nothing, and knows at least
-- these updates
abbrev pub reader_knowing : TableId → ℕ → ℕ → List Update → ReaderState
reader_knowing place base capacity known =
    record { place = place; knowledge = blank_reader base capacity known; memory = None }

-- a reader of these words that has loaded nothing, and will know at least what was shown
abbrev pub reader_beside : WriterState → ReaderState
reader_beside w = reader_knowing w.place w.base w.capacity (shown_updates w)

-- the writer goes on in words of the layout, with as many readers as before; its sequence and what
-- was shown stay
pub record Enlarges (w : WriterState) (l : Layout) (w' : WriterState) (all : List ReaderState)
    : Type 0 where
  pub may : MayEnlarge w l
  pub state : w' ≡ enlarged_state w'.place l w
  pub sequence : at w'.latch.words 0 ≡ at w.latch.words 0
  pub shown : shown_updates w' ≡ shown_updates w
  pub count : length all ≡ w.readers
  pub readers : All (λ x. x ≡ reader_beside w') all
