-- What stays true of a latch in shared words, and of what a reader has loaded of it. It names no
-- table and no seat.
use Rattle.std.specs.Prelude.{◌≡◌, ◌⊎◌, ℕ, ◌+◌, ◌≤◌, List, [], ◌∷◌, length}
use Rattle.order_laws.specs.Orders.{Order}
use Rattle.order_laws.specs.Tables.{IsTable}
use Rattle.word_layout.specs.Words.{at, words_for, HoldsTable, InUse}
use Rattle.table_updates.specs.declared.updates.Update.{Update}
use Rattle.latch_core.specs.Sequences.{generation_of, stable_copy_of}
use Rattle.table_updates.specs.Updates.{replay}
use Rattle.latch_core.specs.Attempts.{Reading, Load, Ends}

-- the loads that these values are of: each word with its value
abbrev pub loads_of : Reading → List ℕ → List (ℕ × ℕ)
loads_of r [] = []
loads_of (Load w go) (x ∷ v) = (w, x) ∷ loads_of (go x) v
loads_of (Ends out) (x ∷ v) = []

-- a word that no store of the writer changes while the sequence stays
abbrev pub IsKept : ℕ → List ℕ → ℕ → Type 0
IsKept n m w = (w ≡ 0) ⊎ InUse m n (stable_copy_of (at m 0)) w

-- each load still is in its word, which is kept
abbrev pub StandAll : ℕ → List ℕ → List (ℕ × ℕ) → Type 0
StandAll n m [] = Unit {0}
StandAll n m (l ∷ ls) = IsKept n m l.0 × (at m l.0 ≡ l.1) × StandAll n m ls

-- the loads of an attempt: its first number is not above the sequence, and while it is the
-- sequence, all of them still hold
abbrev pub IsSteady : ℕ → List ℕ → List (ℕ × ℕ) → Type 0
IsSteady n m [] = Unit {0}
IsSteady n m (l ∷ ls) = (l.1 ≤ at m 0) × (l.1 ≡ at m 0 → StandAll n m (l ∷ ls))

-- the stable copy holds the table after these updates, which are as many as the generation says
pub record IsLatched {K : Type 0} (o : Order K) (n base : ℕ) (m : List ℕ) (known : List Update)
    : Type 0 where
  pub sized : length m ≡ words_for n
  pub counted : base + length known ≡ generation_of (at m 0)
  pub is_table : IsTable o (replay o [] known)
  pub fits : length (replay o [] known) ≤ n
  pub holds : HoldsTable m n (stable_copy_of (at m 0)) (replay o [] known)
