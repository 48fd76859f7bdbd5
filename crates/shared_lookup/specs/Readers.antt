-- What the readers of lists of keys know, and what they loaded for their answers.
use Rattle.std.specs.Prelude.{◌≡◌, ◌⊎◌, ℕ, Bool, List, [], ◌∷◌, ◌++◌, Option, Some, None, IfSome}
use Rattle.std.specs.Global.{Vec}
use Rattle.atomic_table.specs.Seated.{TableId}
use Rattle.order_laws.specs.declared.items.Item.{Item}
use Rattle.table_updates.specs.declared.updates.Update.{Update}
use Rattle.latch_core.specs.Sequences.{generation_of}
use Rattle.latch_table.specs.declared.readers.Try.TheVariants.{Answered}
use Rattle.latch_table.specs.Memory.{memory_after}
use Rattle.latch_table.specs.Readers.{ReaderState, AreRetries, Met}
use Rattle.shared_lookup.specs.declared.served.Answer.{Answer}
use Rattle.shared_lookup.specs.Ledgers.{IsNamed}
use Rattle.shared_lookup.specs.Paired.{ArePaired}
use Rattle.shared_lookup.specs.Servings.{AreAnswered, AreFoundIn}

-- a reader of the table that is named, which counts its generations from 0
abbrev pub IsReaderOf : Option TableId → ReaderState → Type 0
IsReaderOf table r = IsNamed table r.place × (r.knowledge.base ≡ 0)

-- it has loaded nothing, and remembers nothing
abbrev pub IsNewReaderOf : Option TableId → ReaderState → Type 0
IsNewReaderOf table r =
    IsReaderOf table r × (r.knowledge.seen ≡ []) × (r.memory ≡ None)

-- the updates that a reader knows, and the sequences that it loaded; none without a reader
abbrev pub known_by : Option ReaderState → List Update
known_by None = []
known_by (Some r) = r.knowledge.known

abbrev pub seen_by : Option ReaderState → List ℕ
seen_by None = []
seen_by (Some r) = r.knowledge.seen

-- a reader that remembers this loaded these sequences for an answer: for each attempt without one
-- two that differ, and then the one of its generation twice; or this one once, if it remembers the
-- item of the answer, and this generation
abbrev pub IsLookedUp : Option (Item × ℕ) → Option Item → ℕ → List ℕ → Type 0
IsLookedUp memory item g loads =
    (s : ℕ) × (generation_of s ≡ g)
    × (((more : List ℕ) × (loads ≡ more ++ s ∷ s ∷ []) × AreRetries more)
    ⊎ ((loads ≡ s ∷ []) × ((x : Item) × (item ≡ Some x) × (memory ≡ Some (x, g)))))

-- and for these answers, one after another
abbrev pub AreLookedUp : Option (Item × ℕ) → List Answer → List ℕ → Type 0
AreLookedUp memory [] loads = loads ≡ []
AreLookedUp memory (a ∷ rest) loads =
    (first : List ℕ) × (more : List ℕ) × (loads ≡ first ++ more)
    × IsLookedUp memory a.item a.generation first
    × AreLookedUp (memory_after memory (Answered a.item a.generation)) rest more

-- a list of keys has its answers, all found in what the reader knows that came back with them, and
-- for each of them the reader looked
pub record IsHeard (table : Option TableId) (reader : ℕ) (keys : List ℕ) (answers : List Answer)
    (ended : Bool) (back : Option ReaderState) : Type 0 where
  pub answered : AreAnswered reader keys answers ended
  pub reads : IfSome back (IsReaderOf table)
  pub found : AreFoundIn (known_by back) answers
  pub looked : AreLookedUp None answers (seen_by back)

-- the reader has met the writer, whose updates are all of the log
abbrev pub HasMet : List Update → Option ReaderState → Option ReaderState → Type 0
HasMet log None back = back ≡ None
HasMet log (Some r) back = (r' : ReaderState) × (back ≡ Some r') × Met r.knowledge r'.knowledge log

-- a reader knows the whole log; it has looked for each of these answers, in order, and has loaded
-- the sequence once more. Without a reader there is no answer
abbrev pub HasLooked : List Update → List Answer → Option ReaderState → Type 0
HasLooked log answers None = answers ≡ []
HasLooked log answers (Some r) =
    (loads : List ℕ) × (s : ℕ) × (r.knowledge.seen ≡ loads ++ s ∷ [])
    × (r.knowledge.known ≡ log) × AreLookedUp None answers loads

-- the reader of each list of answers has
abbrev pub EachHasLooked : List Update → List (Vec Answer) → List (Option ReaderState) → Type 0
EachHasLooked log = ArePaired (λ _ list back. HasLooked log list.items back)
