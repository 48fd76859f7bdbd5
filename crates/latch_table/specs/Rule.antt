-- The rule over the words and the views of all seats, and what a seat learns by each step.
use Rattle.std.specs.Prelude.{◌≡◌, ℕ, ◌+◌, ◌*◌, ◌≤◌, List, [], ◌∷◌, ◌++◌, length, Option, Some}
use Rattle.std.specs.Prelude.{None}
use mathlib.Core.Option as maybe
use mathlib.Core.List.{IsPrefix}
use lib.ListN.{get_elem?}
use Rattle.atomic_table.specs.Table.{State, Me, Step, opening}
use Rattle.order_laws.specs.Orders.{Order}
use Rattle.order_laws.specs.Tables.{look, IsTable}
use Rattle.word_layout.specs.Layouts.{capacity_of}
use Rattle.word_layout.specs.Words.{at}
use Rattle.table_updates.specs.declared.updates.Update.{Update}
use Rattle.latch_core.specs.Sequences.{generation_of}
use Rattle.table_updates.specs.Updates.{replay}
use Rattle.latch_core.specs.Attempts.{Outcome, Answer, attempt, IsAttempt}
use Rattle.latch_table.specs.declared.knowledge.ReaderKnowledge.{ReaderKnowledge}
use Rattle.latch_table.specs.declared.knowledge.WriterKnowledge.{WriterKnowledge}
use Rattle.latch_table.specs.declared.knowledge.Knowledge.{Knowledge}
use Rattle.latch_table.specs.declared.knowledge.Origin.{Origin}
use Rattle.latch_table.specs.declared.knowledge.Origin.TheVariants.{Start, Moved}
use Rattle.latch_core.specs.Latched.{loads_of, IsSteady, IsLatched}
use Rattle.latch_table.specs.Seats.{reader_of, writer_of, first_knowledge, with_sequence, with_word}
use Rattle.latch_table.specs.Seats.{with_loads, with_update, with_store, last_seen}

-- the number of nodes and the opening generation
abbrev pub capacity_in : Origin → ℕ
capacity_in (Start l start) = capacity_of l
capacity_in (Moved l seat words) = capacity_of l

abbrev pub base_in : Origin → ℕ
base_in (Start l start) = generation_of start
base_in (Moved l seat words) = (writer_of seat.value.me.0).base

-- the numbers never fall, from `low` on, and do not pass `top`
abbrev pub Rises : ℕ → List ℕ → ℕ → Type 0
Rises low [] top = low ≤ top
Rises low (x ∷ xs) top = (low ≤ x) × Rises x xs top

-- if the reader's last step ended an attempt with its first sequence, the attempt gives an
-- answer, from the table after what it knows
abbrev pub EndsRight : {K : Type 0} → Order K → ReaderKnowledge → Type 0
EndsRight {K} o e =
    (k : K) (s : ℕ) (v : List ℕ) (out : Outcome)
    → IsAttempt o e.capacity k (s ∷ (v ++ s ∷ [])) out
    → e.ended ≡ loads_of (attempt o e.capacity k) (s ∷ (v ++ s ∷ []))
    → out ≡ Answer (look o k (replay o [] e.known)) (generation_of s)

-- what a reader knows is true of these words, and of the updates that were shown
pub record ReaderKnows {K : Type 0} (o : Order K) (n base : ℕ) (words : List ℕ)
    (known : List Update) (e : ReaderKnowledge) : Type 0 where
  pub based : e.base ≡ base
  pub capacity : e.capacity ≡ n
  pub begins : IsPrefix e.known known
  pub floored : IsPrefix e.floor known
  pub counted : base + length e.known ≡ generation_of (last_seen e)
  pub rises : Rises (2 * base) e.seen (at words 0)
  pub steady : IsSteady n words e.loads
  pub right : EndsRight o e

-- the one writer knows all words, and the updates that were shown
pub record WriterKnows (n base : ℕ) (words : List ℕ) (known : List Update) (p : WriterKnowledge)
    : Type 0 where
  pub based : p.base ≡ base
  pub capacity : p.capacity ≡ n
  pub picture : p.picture ≡ words
  pub shown : p.known ≡ known

abbrev pub WriterPart : ℕ → ℕ → List ℕ → List Update → ℕ → ℕ → Option WriterKnowledge → Type 0
WriterPart n base words known writer_seat seat None = Unit {0}
WriterPart n base words known writer_seat seat (Some p) =
    (seat ≡ writer_seat) × WriterKnows n base words known p

abbrev pub ReaderPart : {K : Type 0} → Order K → ℕ → ℕ → List ℕ → List Update
    → Option ReaderKnowledge → Type 0
ReaderPart o n base words known None = Unit {0}
ReaderPart o n base words known (Some e) = ReaderKnows o n base words known e

abbrev pub SeatKnows : {K : Type 0} → Order K → ℕ → ℕ → List ℕ → List Update → ℕ → ℕ → Knowledge
    → Type 0
SeatKnows o n base words known writer_seat seat v =
    WriterPart n base words known writer_seat seat v.writer
    × ReaderPart o n base words known v.reader

-- The rule of the shared words: there are updates that were shown, and the stable copy
-- holds their table; one seat alone may be the writer's; and what each seat knows is true.
pub record KnowledgeHolds {S K : Type 0} (o : Order K) (n base : ℕ) (s : State S Knowledge)
    : Type 0 where
  pub known : List Update
  pub writer_seat : ℕ
  pub latched : IsLatched o n base s.words known
  pub each : (seat : ℕ) (v : Knowledge) → get_elem? s.views seat ≡ maybe.some v
      → SeatKnows o n base s.words known writer_seat seat v

-- a new row of these words keeps the rule
abbrev pub Opens : {K : Type 0} → Order K → Origin → List ℕ → Type 0
Opens o from words =
    KnowledgeHolds {S = Unit {0}} o (capacity_in from) (base_in from)
    (opening words [] (first_knowledge from))

-- what a reader learns by a load of word 0: it then knows these updates
pub record LoadsSequence {K : Type 0} (o : Order K) (e : ReaderKnowledge) (s : ℕ)
    (known : List Update) : Type 0 where
  pub begins : IsPrefix e.known known
  pub floored : IsPrefix e.floor known
  pub counted : e.base + length known ≡ generation_of s
  pub is_table : IsTable o (replay o [] known)
  pub right : EndsRight o (with_sequence s known e)

module _ {S : Type 0} where
  -- the seat, with this in place of what it knew as the writer, or as a reader
  abbrev pub as_writer : WriterKnowledge → Me S Knowledge → Me S Knowledge
  as_writer p m = (record { writer = Some p; reader = m.0.reader }, m.1)

  abbrev pub as_reader : ReaderKnowledge → Me S Knowledge → Me S Knowledge
  as_reader e m = (record { writer = m.0.writer; reader = Some e }, m.1)

  -- a reader loads word 0; joined to the writer, it then knows all that the writer knows
  abbrev pub sequence_loaded : {K : Type 0} → Order K → Step S → Me S Knowledge → ℕ
      → Me S Knowledge → Type 0
  sequence_loaded o st m s m' =
      (known : List Update)
      × LoadsSequence o (reader_of m.0) s known
      × ((p : WriterKnowledge) → m.0.writer ≡ Some p → known ≡ p.known)
      × (m' ≡ as_reader (with_sequence s known (reader_of m.0)) m)

  -- a reader loads another word
  abbrev pub word_loaded : Step S → Me S Knowledge → ℕ → Me S Knowledge → Type 0
  word_loaded st m x m' = m' ≡ as_reader (with_word st.word x (reader_of m.0)) m

  -- the writer loads a word, and then knows this
  abbrev pub loaded_by_writer : Step S → Me S Knowledge → ℕ → WriterKnowledge → Me S Knowledge
      → Type 0
  loaded_by_writer st m x p m' = (x ≡ at (writer_of m.0).picture st.word) × (m' ≡ as_writer p m)

  -- the first load of a lookup, and a later one
  abbrev pub lookup_begun : Step S → Me S Knowledge → ℕ → Me S Knowledge → Type 0
  lookup_begun st m x m' =
      loaded_by_writer st m x (with_loads ((st.word, x) ∷ []) (writer_of m.0)) m'

  abbrev pub writer_loaded : Step S → Me S Knowledge → ℕ → Me S Knowledge → Type 0
  writer_loaded st m x m' =
      let p = writer_of m.0 in
      loaded_by_writer st m x (with_loads (p.loads ++ (st.word, x) ∷ []) p) m'

  -- the writer copies a word
  abbrev pub word_copied : Step S → Me S Knowledge → ℕ → Me S Knowledge → Type 0
  word_copied st m x m' = (x ≡ at (writer_of m.0).picture st.word) × (m' ≡ m)

  -- the load by which the writer's seat learns which update is pending
  abbrev pub update_taken : {K : Type 0} → Order K → Update → Step S → Me S Knowledge → ℕ
      → Me S Knowledge → Type 0
  update_taken o u st m x m' = loaded_by_writer st m x (with_update o u (writer_of m.0)) m'

  -- the writer stores
  abbrev pub word_stored : Step S → Me S Knowledge → ℕ → Me S Knowledge → Type 0
  word_stored st m x m' = m' ≡ as_writer (with_store st.word x (writer_of m.0)) m
