-- What became of the changes of a list, in the order of a log.
use Rattle.std.specs.Prelude.{◌≡◌, ◌⊎◌, ℕ, suc, ◌<◌, ◌≤◌, List, [], ◌∷◌, length}
use Rattle.std.specs.Prelude.{Option, Some, None, Ok, Err}
use Rattle.std.specs.Option.{ForSome}
use Rattle.std.specs.Global.{Vec}
use mathlib.Core.List.{IsPrefix}
use Rattle.atomic_table.specs.Seated.{TableId}
use Rattle.word_layout.specs.Limits.{greatest_wide_sequence}
use Rattle.table_updates.specs.declared.updates.Update.{Update}
use Rattle.modules.specs.Catalogs.{regions_of}
use Rattle.modules.specs.Entries.{CatalogEntries}
use Rattle.latch_table.specs.Readers.{ReaderState}
use Rattle.shared_lookup.specs.declared.changes.Change.{Change}
use Rattle.shared_lookup.specs.Changes.{Changes, RefusesChange}
use Rattle.shared_lookup.specs.Checks.{with_log}
use Rattle.shared_lookup.specs.Ledgers.{IsNamed, LedgerState, with_first}
use Rattle.shared_lookup.specs.Paired.{ArePaired}
use Rattle.shared_lookup.specs.Servings.{AreNotMade, AreOutcomesOf, ChangeOutcome}

-- what becomes of a change after the first updates of the log: it is the next one, or it is refused
-- there
abbrev pub IsOutcomeBehind : CatalogEntries → LedgerState → ℕ → Change → ChangeOutcome → Type 0
IsOutcomeBehind c l n ch (Ok g) =
    (n < length l.log) × Changes c ch (with_first n l) (with_first (suc n) l) g
IsOutcomeBehind c l n ch (Err e) = (n ≤ length l.log) × RefusesChange c ch (with_first n l) e

-- how many updates there are then
abbrev pub count_after : ℕ → ChangeOutcome → ℕ
count_after n (Ok g) = suc n
count_after n (Err e) = n

-- the changes have these outcomes, each after no fewer updates of the log than the one before left
abbrev pub FollowLog : CatalogEntries → LedgerState → ℕ → List Change → List ChangeOutcome → Type 0
FollowLog c l from [] outcomes = outcomes ≡ []
FollowLog c l from (ch ∷ rest) [] = ⊥
FollowLog c l from (ch ∷ rest) (r ∷ more) =
    (n : ℕ) × (from ≤ n) × IsOutcomeBehind c l n ch r × FollowLog c l (count_after n r) rest more

-- the change was made when the log extended what the reader knew before; the reader knows of it
-- after; and its outcome is the one at that log, if it is known how the ledger was opened
pub record IsMadeBeside (c : CatalogEntries) (opened : Option LedgerState) (ch : Change)
    (known known' : List Update) (r : ChangeOutcome) : Type 0 where
  pub before : List Update
  pub begins : IsPrefix known before
  pub kept : IsPrefix before known'
  pub outcome : ForSome opened (λ o. IsOutcomeBehind c (with_log known' o) (length before) ch r)

-- the changes of a list follow what the reader knows that came back with them; without a reader
-- none was made
abbrev pub FollowKnown : Option TableId → Option LedgerState → CatalogEntries → List Change
    → List ChangeOutcome → Option ReaderState → Type 0
FollowKnown table opened c changes outcomes None = AreNotMade changes outcomes
FollowKnown table opened c changes outcomes (Some r) =
    (table ≡ Some r.place)
    × ForSome opened (λ o. FollowLog c (with_log r.knowledge.known o) 0 changes outcomes)

-- what became of the changes of a list, and that they follow
pub record AreMade (table : Option TableId) (opened : Option LedgerState) (c : CatalogEntries)
    (changes : List Change) (outcomes : List ChangeOutcome) (back : Option ReaderState)
    : Type 0 where
  pub outcomes_of : AreOutcomesOf c changes outcomes
  pub follow : FollowKnown table opened c changes outcomes back

-- the changes of each list follow the log, or none of them was made
abbrev pub EachFollowsLog : CatalogEntries → LedgerState → List (Vec Change)
    → List (Vec ChangeOutcome) → Type 0
EachFollowsLog c l =
    ArePaired (λ _ list made.
    FollowLog c l 0 list.items made.items ⊎ AreNotMade list.items made.items)

-- a ledger with this log, of a table that has room for all regions of the catalog and sequences of
-- 64 bits, whose updates are counted from 0
pub record IsServedLedger (c : CatalogEntries) (log : List Update) (l : LedgerState)
    : Type 0 where
  pub logged : l.log ≡ log
  pub base : l.base ≡ 0
  pub room : length (regions_of c) ≤ l.capacity
  pub limit : l.limit ≡ greatest_wide_sequence

-- the changes of each list follow the log of such a ledger
abbrev pub FollowServed : CatalogEntries → List Update → List (Vec Change)
    → List (Vec ChangeOutcome) → Type 0
FollowServed c log changes outcomes =
    (l : LedgerState) × IsServedLedger c log l × EachFollowsLog c l changes outcomes

-- the ledger is the one that was opened, with what was accepted since, if that is named
abbrev pub IsOpenedAs : Option LedgerState → LedgerState → Type 0
IsOpenedAs opened l = ForSome opened (λ o. l ≡ with_log l.log o)

-- a ledger is there, of the table that is named, as it was opened but for its log
abbrev pub IsHeld : Option TableId → Option LedgerState → Option LedgerState → Type 0
IsHeld table opened held =
    (l : LedgerState) × (held ≡ Some l) × IsNamed table l.place × IsOpenedAs opened l
