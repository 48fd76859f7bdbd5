-- What a reader remembers, and when it answers from memory: no update was shown since, so that the
-- item is still in the table.
use Rattle.std.specs.Prelude.{◌≡◌, ◌≢◌, ◌⊎◌, ℕ, ◌+◌, List, [], ◌∷◌, ◌++◌, length, Option, Some}
use Rattle.std.specs.Prelude.{None, Contains, IfSome}
use Rattle.std.specs.declared.cmp.Ordering.TheVariants.{Equal}
use mathlib.Core.List.{IsPrefix}
use Rattle.order_laws.specs.declared.items.Item.{Item}
use Rattle.order_laws.specs.Orders.{Order}
use Rattle.table_updates.specs.declared.updates.Update.{Update}
use Rattle.table_updates.specs.Updates.{replay}
use Rattle.latch_core.specs.Sequences.{generation_of}
use Rattle.latch_table.specs.declared.knowledge.ReaderKnowledge.{ReaderKnowledge}
use Rattle.latch_table.specs.declared.readers.Try.{Try}
use Rattle.latch_table.specs.declared.readers.Try.TheVariants.{Answered, Retry}
use Rattle.latch_table.specs.Readers.{KnowsMore, KnowsFloor, Answers, Tried}

-- the item was in the table of this generation, whose updates the reader knows
pub record Remembers {K : Type 0} (o : Order K) (e : ReaderKnowledge) (x : Item) (g : ℕ)
    : Type 0 where
  pub shown : List Update
  pub known : IsPrefix shown e.known
  pub counted : e.base + length shown ≡ g
  pub inside : Contains (replay o [] shown) x

-- what the reader remembers, if anything, is such an item with its generation
abbrev pub MemoryHolds : {K : Type 0} → Order K → ReaderKnowledge → Option (Item × ℕ) → Type 0
MemoryHolds o e None = Unit {0}
MemoryHolds o e (Some r) = Remembers o e r.0 r.1

-- an answer with an item is remembered, and else what was remembered before
abbrev pub memory_after : Option (Item × ℕ) → Try → Option (Item × ℕ)
memory_after memory (Answered (Some x) g) = Some (x, g)
memory_after memory (Answered None g) = memory
memory_after memory Retry = memory

-- what memory gives for the key at this generation: the item that is remembered, if its answer
-- was of this generation and the key lies in it; else nothing
abbrev pub IsRecalled : {K : Type 0} → Order K → K → ℕ → Option (Item × ℕ) → Option (Item × ℕ)
    → Type 0
IsRecalled o k g memory (Some r) = (memory ≡ Some r) × (r.1 ≡ g) × (o.comp k r.0 ≡ Equal)
IsRecalled o k g memory None =
    (r : Item × ℕ) → memory ≡ Some r → r.1 ≡ g → o.comp k r.0 ≢ Equal

-- one load of the sequence and of no other word, and what memory gives at its generation, which is
-- the answer
pub record Recalled {K : Type 0} (o : Order K) (k : K) (memory : Option (Item × ℕ))
    (e e' : ReaderKnowledge) (r : Option (Item × ℕ)) : Type 0 where
  pub sequence : ℕ
  pub seen : e'.seen ≡ e.seen ++ sequence ∷ []
  pub once : e'.ended ≡ e.loads ++ (0, sequence) ∷ []
  pub last : e'.loads ≡ (0, sequence) ∷ []
  pub more : KnowsMore e e'
  pub floored : KnowsFloor e'
  pub recalled : IsRecalled o k (generation_of sequence) memory r
  pub answers : IfSome r (λ x. Answers o k e' (Some x.0) x.1)

-- an answer from memory by one load of the sequence; or else one attempt, at whose first load of
-- the sequence memory gave nothing
abbrev pub Looked : {K : Type 0} → Order K → K → Option (Item × ℕ) → ReaderKnowledge
    → ReaderKnowledge → Try → Type 0
Looked o k memory e e' t =
    ((r : Item × ℕ) × (t ≡ Answered (Some r.0) r.1) × Recalled o k memory e e' (Some r))
    ⊎ ((s : ℕ) × IsPrefix (e.seen ++ s ∷ []) e'.seen
    × IsRecalled o k (generation_of s) memory None × Tried o k e e' t)
