-- What several writers and readers come back with, and how many of their answers are wrong.
use Rattle.std.specs.Prelude.{◌≡◌, ◌≢◌, ◌⊎◌, ℕ, ◌+◌, ◌-◌, ◌^◌, ◌<◌, ◌≤◌, ◌==◌, Bool, false}
use Rattle.std.specs.Prelude.{List, [], All, length, map, take, slice_get, count_by, zip, min}
use Rattle.std.specs.Prelude.{Some, Result, Ok, Err}
use Rattle.std.specs.Global.{Vec}
use Rattle.std.specs.List.{flat_map, range_with_len}
use Rattle.std.specs.List.Sorted.{IsNonDecreasingBy}
use Rattle.order_laws.specs.declared.refusals.Refusal.{Refusal}
use Rattle.order_laws.specs.declared.refusals.Refusal.TheVariants.{OutOfMemory, BadCapacity}
use Rattle.order_laws.specs.Orders.{half_open}
use Rattle.order_laws.specs.Tables.{look}
use Rattle.word_layout.specs.Limits.{most_nodes}
use Rattle.latch_table.specs.Limits.{most_readers}
use Rattle.table_updates.specs.declared.updates.Update.{Update}
use Rattle.table_updates.specs.Updates.{replay}
use Rattle.modules.specs.Catalogs.{regions_of}
use Rattle.modules.specs.Entries.{CatalogEntries}
use Rattle.shared_lookup.specs.declared.changes.Change.{Change}
use Rattle.shared_lookup.specs.declared.served.Answer.{Answer}
use Rattle.shared_lookup.specs.Changes.{IsOutcomeOf, IsUpdateFor}
use Rattle.shared_lookup.specs.Counts.{Counts}
use Rattle.shared_lookup.specs.Paired.{ArePaired}

-- what became of a change: its generation, or why it was refused
abbrev pub ChangeOutcome : Type 0
ChangeOutcome = Result ℕ Refusal

-- all entries of all lists, one list after another
abbrev pub entries : {X : Type 0} → List (Vec X) → List X
entries lists = flat_map (λ list. list.items) lists

-- each list has as many entries as its partner
abbrev pub AreAsLong : {X Y : Type 0} → List (Vec X) → List (Vec Y) → Type 0
AreAsLong xs ys = map (λ list. length list.items) ys ≡ map (λ list. length list.items) xs

-- at the place of each change of a list is what became of it
abbrev pub HasOutcomes : CatalogEntries → List Change → List ChangeOutcome → Type 0
HasOutcomes c = ArePaired (λ _ ch r. IsOutcomeOf c ch r)

-- each change of a list is refused, because no thread could be made for the list
abbrev pub AreNotMade : List Change → List ChangeOutcome → Type 0
AreNotMade changes outcomes =
    (length outcomes ≡ length changes) × All (λ r. r ≡ Err OutOfMemory) outcomes

-- what became of the changes of a list
abbrev pub AreOutcomesOf : CatalogEntries → List Change → List ChangeOutcome → Type 0
AreOutcomesOf c changes outcomes = HasOutcomes c changes outcomes ⊎ AreNotMade changes outcomes

-- each list of changes has its outcomes
abbrev pub EachHasOutcome : CatalogEntries → List (Vec Change) → List (Vec ChangeOutcome) → Type 0
EachHasOutcome c = ArePaired (λ _ list made. AreOutcomesOf c list.items made.items)

-- this reader gave the answer to the key at this place
pub record IsAnswerTo (reader place key : ℕ) (a : Answer) : Type 0 where
  pub reader_is : a.reader ≡ reader
  pub place_is : a.place ≡ place
  pub key_is : a.key ≡ key

-- a list of keys has its answers from its first place on, and to its end unless it ended because
-- memory ran out
pub record AreAnswered (reader : ℕ) (keys : List ℕ) (answers : List Answer) (ended : Bool)
    : Type 0 where
  pub few : length answers ≤ length keys
  pub each : (place key : ℕ) (a : Answer) → slice_get keys place ≡ Some key
      → slice_get answers place ≡ Some a → IsAnswerTo reader place key a
  pub whole : ended ≡ false → length answers ≡ length keys

-- each list of keys has its answers
pub record EachIsAnswered (keys : List (Vec ℕ)) (answers : List (Vec Answer)) (ended : List Bool)
    : Type 0 where
  pub same : length answers ≡ length keys
  pub told : length ended ≡ length keys
  pub each : (reader : ℕ) (list : Vec ℕ) (found : Vec Answer) (end : Bool)
      → slice_get keys reader ≡ Some list → slice_get answers reader ≡ Some found
      → slice_get ended reader ≡ Some end
      → AreAnswered reader list.items found.items end

-- the answer is what the key lies in after as many of these updates as its generation says
abbrev pub IsFoundIn : List Update → Answer → Type 0
IsFoundIn log a =
    (a.generation ≤ length log)
    × (a.item ≡ look half_open a.key (replay half_open [] (take a.generation log)))

-- the answers come by rising generation
abbrev pub AreInOrder : List Answer → Type 0
AreInOrder answers = IsNonDecreasingBy (λ a. a.generation) answers

-- each answer of a list is found in these updates, and no later one is of an earlier generation
abbrev pub AreFoundIn : List Update → List Answer → Type 0
AreFoundIn log answers = All (IsFoundIn log) answers × AreInOrder answers

-- the answers of each list are
abbrev pub EachIsFoundIn : List Update → List (Vec Answer) → Type 0
EachIsFoundIn log answers = All (λ list. AreFoundIn log list.items) answers

-- an answer of a generation that the log does not come to, or not what the key lies in at its
-- generation
abbrev pub IsWrongAnswer : List Update → Answer → Type 0
IsWrongAnswer log a =
    (length log < a.generation)
    ⊎ (a.item ≢ look half_open a.key (replay half_open [] (take a.generation log)))

-- the log has an entry of this generation that the catalog gives for the change
abbrev pub IsLogged : CatalogEntries → List Update → Change → ℕ → Type 0
IsLogged c log ch g =
    (0 < g) × ((u : Update) × (slice_get log (g - 1) ≡ Some u) × IsUpdateFor c ch u)

-- a change that was accepted without such an entry
abbrev pub IsWrongChange : CatalogEntries → List Update → Change × ChangeOutcome → Type 0
IsWrongChange c log e = (g : ℕ) × (e.1 ≡ Ok g) × (IsLogged c log e.0 g → ⊥)

-- the change was accepted, and this is its generation
abbrev pub has_generation : ℕ → ChangeOutcome → Bool
has_generation g (Ok h) = h == g
has_generation g (Err e) = false

-- an entry of the log, by its place, whose generation not exactly one accepted change has
abbrev pub IsWrongEntry : List ChangeOutcome → ℕ → Type 0
IsWrongEntry outcomes place = count_by (has_generation (place + 1)) outcomes ≢ 1

-- how many are wrong of the answers, of the accepted changes and of the entries of the log; it
-- stays at the greatest u64
abbrev pub IsWrongCount : CatalogEntries → List (Vec Change) → List (Vec ChangeOutcome)
    → List (Vec Answer) → List Update → ℕ → Type 0
IsWrongCount c changes outcomes answers log wrong =
    (a : ℕ) × Counts (IsWrongAnswer log) (entries answers) a
    × ((b : ℕ) × Counts (IsWrongChange c log) (zip (entries changes) (entries outcomes)) b
    × ((d : ℕ) × Counts (IsWrongEntry (entries outcomes)) (range_with_len 0 (length log)) d
    × (wrong ≡ min (a + b + d) (2 ^ 64 - 1))))

-- a table can have the regions of the catalog, and a reader for each list of keys
abbrev pub MayServe : CatalogEntries → List (Vec ℕ) → Type 0
MayServe c keys =
    (length (regions_of c) ≤ most_nodes) × (0 < length keys)
    × (length keys ≤ most_readers)

-- by these numbers, and else because memory ran out
abbrev pub RefusesServing : CatalogEntries → List (Vec ℕ) → Refusal → Type 0
RefusesServing c keys e =
    ((e ≡ BadCapacity) × (MayServe c keys → ⊥)) ⊎ ((e ≡ OutOfMemory) × MayServe c keys)
