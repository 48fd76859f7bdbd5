-- What the opening of a table gives.
use Rattle.std.specs.Prelude.{◌≡◌, ◌≢◌, ℕ, ◌≤◌, ◌<◌, ◌⊎◌, All, List, [], Some, length, vec_len}
use Rattle.std.specs.Global.{Vec}
use Rattle.atomic_table.specs.Seated.{TableId}
use Rattle.word_layout.specs.declared.layouts.Layout.{Layout}
use Rattle.word_layout.specs.Layouts.{capacity_of, limit_of}
use Rattle.word_layout.specs.Limits.{greatest_wide_sequence, most_nodes}
use Rattle.latch_table.specs.declared.knowledge.Origin.TheVariants.{Start}
use Rattle.latch_table.specs.Limits.{most_readers}
use Rattle.latch_table.specs.Readers.{ReaderState, new_reader}
use Rattle.latch_table.specs.Seats.{first_knowledge}
use Rattle.latch_table.specs.Writers.{WriterState, new_writer}
use Rattle.latchsym_ffi.specs.declared.opening_tables.Boxes.{Boxes}
use Rattle.latchsym_ffi.specs.declared.contents.Content.{Content}
use Rattle.latchsym_ffi.specs.declared.contents.Content.TheVariants.{Follower, Reader, Writer}
use Rattle.latchsym_ffi.specs.declared.handles.Handle.{Handle}
use Rattle.latchsym_ffi.specs.declared.opening_tables.Owner.{Owner}
use Rattle.latchsym_ffi.specs.declared.opening_tables.Owner.TheVariants as first
use Rattle.latchsym_ffi.specs.Handles.{HoldsReader}

-- a layout of this many nodes, with 64-bit sequences
abbrev pub IsWide : ℕ → Layout → Type 0
IsWide nodes l = (capacity_of l ≡ nodes) × (limit_of l ≡ greatest_wide_sequence)

-- the handles for a writer and for its readers are all closed
abbrev pub AreClosed : Handle → List Handle → Type 0
AreClosed w readers = (w.kind ≡ 0) × All (λ h. h.kind ≡ 0) readers

-- a reader of the empty table at a place
abbrev pub first_reader : TableId → Layout → ReaderState
first_reader place l = new_reader place (first_knowledge (Start l 0))

-- a follower that has shown no catalog and was told of no code
abbrev pub first_follower : WriterState → Content
first_follower w = Follower (record { writer = w; catalogs = []; noted = [] })

-- what changes a table, by its writer
abbrev pub first_content : Owner → WriterState → Content
first_content first.Writer = Writer
first_content first.Follower = first_follower

-- an empty table with this layout: what changes it, and its readers
pub record IsEmptyTable (owner : WriterState → Content) (l : Layout) (readers : ℕ)
    (content : Content) (all : Vec ReaderState)
    : Type 0 where
  pub place : TableId
  pub owned : content ≡ owner (new_writer place l 0 readers)
  pub count : vec_len all ≡ readers
  pub each : All (λ x. x ≡ first_reader place l) all.items

-- an empty table of this many nodes: what its writer is the owner of in one handle, and a reader in
-- each of the others
pub record IsOpenedTable (owner : WriterState → Content) (nodes : ℕ) (h : Handle)
    (readers : List Handle) : Type 0 where
  pub place : TableId
  pub layout : Layout
  pub wide : IsWide nodes layout
  pub owned : h.pointer.content ≡ Some (owner (new_writer place layout 0 (length readers)))
  pub each : All (HoldsReader (first_reader place layout)) readers

-- this in boxes
pub record AreOpened (owner : WriterState → Content) (nodes readers : ℕ) (b : Boxes)
    : Type 0 where
  pub place : TableId
  pub layout : Layout
  pub wide : IsWide nodes layout
  pub owned : b.owner.value ≡ owner (new_writer place layout 0 readers)
  pub count : vec_len b.readers ≡ readers
  pub each : All (λ x. x.value ≡ Reader (first_reader place layout)) b.readers.items

-- the numbers of nodes and readers are from 1 up to the most of a table
abbrev pub AreInRange : ℕ → ℕ → Type 0
AreInRange nodes readers =
    (0 < nodes) × (nodes ≤ most_nodes) × (0 < readers) × (readers ≤ most_readers)

-- a refusal for numbers out of their ranges, and else because memory ran out
abbrev pub RefusesTable : ℕ → ℕ → ℕ → Type 0
RefusesTable nodes readers result =
    ((result ≡ 10) × (AreInRange nodes readers → ⊥)) ⊎ ((result ≡ 7) × AreInRange nodes readers)

-- one of the handles is open, or else the number is of such a refusal
abbrev pub RefusesHandles : ℕ → Handle → List Handle → ℕ → Type 0
RefusesHandles nodes w readers result =
    ((result ≡ 101) × (AreClosed w readers → ⊥))
    ⊎ (AreClosed w readers × RefusesTable nodes (length readers) result)

-- an empty table is opened in closed handles, or a refusal leaves these as they were
pub record OpensTable (owner : WriterState → Content) (nodes : ℕ) (h : Handle)
    (readers : List Handle) (h' : Handle) (readers' : List Handle) (result : ℕ)
    : Type 0 where
  pub opened : result ≡ 0 → IsOpenedTable owner nodes h' readers'
  pub count : length readers' ≡ length readers
  pub may : result ≡ 0 → AreClosed h readers × AreInRange nodes (length readers)
  pub refused : result ≢ 0 → (h' ≡ h) × (readers' ≡ readers)
  pub why : result ≢ 0 → RefusesHandles nodes h readers result
