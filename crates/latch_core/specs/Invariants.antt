-- What stays true at every step.
use Rattle.std.specs.Prelude.{◌≡◌, ℕ, ◌+◌, ◌-◌, ◌*◌, ◌<◌, ◌≤◌, List, [], ◌∷◌, length, take, Option}
use Rattle.std.specs.Prelude.{Some, None}
use Rattle.table_updates.specs.declared.updates.Update.{Update}
use Rattle.order_laws.specs.Orders.{Order}
use Rattle.order_laws.specs.Tables.{IsTable}
use Rattle.table_updates.specs.Updates.{replay}
use Rattle.latch_core.specs.Histories.{current_table}
use Rattle.word_layout.specs.Words.{at, HoldsTable}
use Rattle.latch_core.specs.Sequences.{stable_copy_of}
use Rattle.latch_core.specs.Attempts.{Reading, Stand}
use Rattle.latch_core.specs.Latches.{PendingUpdate, Latch}

-- a reader's attempt: its first number is not above the sequence, and while it is the sequence,
-- each value that was loaded still is in its word
abbrev pub IsStanding : List ℕ → Reading → List ℕ → Type 0
IsStanding m r [] = Unit {0}
IsStanding m r (s ∷ v) = (s ≤ at m 0) × (s ≡ at m 0 → Stand m r (s ∷ v))

-- each replay is a table, and fits
abbrev pub AreTables : {K : Type 0} → Order K → ℕ → List Update → Type 0
AreTables o n us =
    (j : ℕ) → IsTable o (replay o [] (take j us)) × (length (replay o [] (take j us)) ≤ n)

-- a pending update is the last that was accepted; with none pending the sequence counts two for
-- each
pub record IsPendingUpdate {K : Type 0} (o : Order K) (start seq : ℕ) (us : List Update)
    (h : PendingUpdate) : Type 0 where
  pub count : seq + 2 ≡ start + 2 * length us + h.flips_made
  pub flips : h.flips_made ≤ 2
  pub last : 0 < length us
  pub old : h.old_table ≡ replay o [] (take (length us - 1) us)

abbrev pub IsPendingOf : {K : Type 0} → Order K → ℕ → ℕ → List Update → Option PendingUpdate
    → Type 0
IsPendingOf o start seq us None = seq ≡ start + 2 * length us
IsPendingOf o start seq us (Some h) = IsPendingUpdate o start seq us h

-- the latch after these updates: the stable copy holds the table that the sequence names
pub record IsSound {K : Type 0} (o : Order K) (n start : ℕ) (us : List Update) (l : Latch)
    : Type 0 where
  pub even : stable_copy_of start ≡ 0
  pub sized : 0 < length l.words
  pub tables : AreTables o n us
  pub table_is : l.newest_table ≡ replay o [] us
  pub in_hand : IsPendingOf o start (at l.words 0) us l.pending
  pub current : HoldsTable l.words n (stable_copy_of (at l.words 0))
      (current_table o start us l.words)
