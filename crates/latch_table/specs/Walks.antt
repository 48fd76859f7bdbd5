-- The shared words as a seat loads them in an attempt.
use Rattle.std.specs.Prelude.{◌≡◌, ℕ, List, [], ◌∷◌, ◌++◌}
use Rattle.atomic_table.specs.Table.{Me}
use Rattle.atomic_table.specs.Seated.{TableId}
use Rattle.order_laws.specs.Orders.{Order}
use Rattle.word_layout.specs.Words.{at}
use Rattle.table_updates.specs.declared.updates.Update.{Update}
use Rattle.latch_core.specs.Latched.{IsKept, StandAll}
use Rattle.latch_table.specs.declared.knowledge.ReaderKnowledge.{ReaderKnowledge}
use Rattle.latch_table.specs.declared.knowledge.Knowledge.{Knowledge}
use Rattle.latch_table.specs.Seats.{reader_of, reader_knowledge, with_sequence, with_word}
use Rattle.latch_table.specs.Seats.{writer_of, writer_knowledge, with_loads}
use Rattle.latch_table.specs.Rule.{LoadsSequence}

-- the word is kept, while what the reader has loaded is in its words
abbrev pub MayLoad : ReaderKnowledge → ℕ → Type 0
MayLoad e word =
    (l : ℕ × ℕ) × (ls : List (ℕ × ℕ)) × (e.loads ≡ l ∷ ls)
    × ((words : List ℕ) → StandAll e.capacity words (l ∷ ls) → IsKept e.capacity words word)

module _ {S : Type 0} where
  -- a reader's seat of this table, and the writer's
  abbrev pub IsReading : TableId → TableId → Me S Knowledge → Type 0
  IsReading table own me = (own ≡ table) × (me ≡ (reader_knowledge (reader_of me.0), []))

  abbrev pub IsWriting : TableId → TableId → Me S Knowledge → Type 0
  IsWriting table own me = (own ≡ table) × (me ≡ (writer_knowledge (writer_of me.0), []))

  -- what they learn by a load
  abbrev pub LearnsWord : Me S Knowledge → ℕ → ℕ → Me S Knowledge → Type 0
  LearnsWord me w x me' = me' ≡ (reader_knowledge (with_word w x (reader_of me.0)), [])

  abbrev pub LearnsSequence : {K : Type 0} → Order K → Me S Knowledge → ℕ → Me S Knowledge → Type 0
  LearnsSequence o me s me' =
      (known : List Update) × LoadsSequence o (reader_of me.0) s known
      × (me' ≡ (reader_knowledge (with_sequence s known (reader_of me.0)), []))

  abbrev pub WriterLearns : Me S Knowledge → ℕ → ℕ → Me S Knowledge → Type 0
  WriterLearns me w x me' =
      (x ≡ at (writer_of me.0).picture w)
      × (me' ≡ (
        writer_knowledge (with_loads ((writer_of me.0).loads ++ (w, x) ∷ []) (writer_of me.0)),
        [],
      ))
