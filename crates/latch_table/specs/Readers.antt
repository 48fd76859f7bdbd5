-- A reader, and what its calls promise.
use Rattle.std.specs.Prelude.{◌≡◌, ◌≢◌, ℕ, ◌+◌, ◌*◌, ◌≤◌, List, [], ◌∷◌, ◌++◌, length, Option, None}
use mathlib.Core.List.{IsPrefix}
use Rattle.atomic_table.specs.Seated.{TableId}
use Rattle.order_laws.specs.declared.items.Item.{Item}
use Rattle.order_laws.specs.Orders.{Order}
use Rattle.order_laws.specs.Tables.{look}
use Rattle.table_updates.specs.declared.updates.Update.{Update}
use Rattle.latch_core.specs.Sequences.{generation_of}
use Rattle.table_updates.specs.Updates.{replay}
use Rattle.latch_core.specs.Attempts.{Outcome, Answer, Again, attempt, IsAttempt}
use Rattle.latch_table.specs.declared.knowledge.ReaderKnowledge.{ReaderKnowledge}
use Rattle.latch_table.specs.declared.knowledge.Knowledge.{Knowledge}
use Rattle.latch_table.specs.declared.readers.Try.{Try}
use Rattle.latch_table.specs.declared.readers.Try.TheVariants.{Answered, Retry}
use Rattle.latch_core.specs.Latched.{loads_of}
use Rattle.latch_table.specs.Seats.{reader_of, writer_of, blank_reader}

-- a reader, as clauses see it; its memory is the item that it found last, with the generation of
-- that answer
pub record ReaderState : Type 0 where
  pub place : TableId
  pub knowledge : ReaderKnowledge
  pub memory : Option (Item × ℕ)

-- the reader now knows more updates, or no fewer
pub record KnowsMore (e e' : ReaderKnowledge) : Type 0 where
  pub base : e'.base ≡ e.base
  pub capacity : e'.capacity ≡ e.capacity
  pub floor : e'.floor ≡ e.floor
  pub known : IsPrefix e.known e'.known

-- what a reader knows once it has loaded the sequence begins with what was shown when it was made
abbrev pub KnowsFloor : ReaderKnowledge → Type 0
KnowsFloor e = IsPrefix e.floor e.known

-- its last step ended one attempt, which had this outcome
pub record EndedAttempt {K : Type 0} (o : Order K) (k : K) (e : ReaderKnowledge) (out : Outcome)
    : Type 0 where
  pub values : List ℕ
  pub whole : IsAttempt o e.capacity k values out
  pub loads : e.ended ≡ loads_of (attempt o e.capacity k) values
  pub few : length values ≤ 4 * e.capacity + 3

-- the answer is what the key lies in, in the table after the updates that the reader now knows,
-- which are the updates of the generation g
pub record Answers {K : Type 0} (o : Order K) (k : K) (e : ReaderKnowledge) (x : Option Item)
    (g : ℕ) : Type 0 where
  pub floored : KnowsFloor e
  pub counted : e.base + length e.known ≡ g
  pub found : x ≡ look o k (replay o [] e.known)

-- one attempt: two equal numbers and an answer, or two that differ
abbrev pub Tried : {K : Type 0} → Order K → K → ReaderKnowledge → ReaderKnowledge → Try → Type 0
Tried o k e e' (Answered x g) =
    (s : ℕ) × (e'.seen ≡ e.seen ++ s ∷ s ∷ []) × (generation_of s ≡ g)
    × KnowsMore e e' × EndedAttempt o k e' (Answer x g) × Answers o k e' x g
Tried o k e e' Retry =
    (s : ℕ) × (t : ℕ) × (e'.seen ≡ e.seen ++ s ∷ t ∷ []) × (t ≢ s)
    × KnowsMore e e' × EndedAttempt o k e' Again × KnowsFloor e'

-- the sequences that attempts without an answer loaded: for each attempt two that differ
abbrev pub AreRetries : List ℕ → Type 0
AreRetries [] = Unit {0}
AreRetries (s ∷ []) = ⊥
AreRetries (s ∷ t ∷ more) = (t ≢ s) × AreRetries more

-- one or more attempts, and the last gave an answer
abbrev pub Searched : {K : Type 0} → Order K → K → ReaderKnowledge → ReaderKnowledge
    → Option Item × ℕ → Type 0
Searched o k e e' r =
    (more : List ℕ) × (s : ℕ) × (e'.seen ≡ (e.seen ++ more) ++ s ∷ s ∷ []) × (generation_of s ≡ r.1)
    × KnowsMore e e' × EndedAttempt o k e' (Answer r.0 r.1) × Answers o k e' r.0 r.1
    × AreRetries more

-- none or more attempts, and none gave an answer
abbrev pub Searches : ReaderKnowledge → ReaderKnowledge → Type 0
Searches e e' =
    (more : List ℕ) × (e'.seen ≡ e.seen ++ more) × KnowsMore e e' × AreRetries more

-- the reader has loaded word 0 once more, and knows these updates
abbrev pub Met : ReaderKnowledge → ReaderKnowledge → List Update → Type 0
Met e e' all =
    (s : ℕ) × (e'.seen ≡ e.seen ++ s ∷ []) × (e'.known ≡ all) × KnowsMore e e' × KnowsFloor e'

-- the reader whose seat knows this, and one that the writer's seat parts with
abbrev pub reader_at : TableId → Knowledge → Option (Item × ℕ) → ReaderState
reader_at place v memory =
    record { place = place; knowledge = reader_of v; memory = memory }

abbrev pub new_reader : TableId → Knowledge → ReaderState
new_reader place v =
    record {
      place = place;
      knowledge = blank_reader (writer_of v).base (writer_of v).capacity (writer_of v).known;
      memory = None;
    }
