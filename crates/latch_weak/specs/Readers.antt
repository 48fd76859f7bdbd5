-- An attempt of a reader whose view is kept in numbers. A schedule chooses each of its loads.
use Rattle.std.specs.Prelude.{◌≡◌, ℕ, ◌+◌, ◌%◌, ◌^◌, ◌≤◌, List, [], ◌∷◌}
use Rattle.std.specs.Prelude.{length, get_or, max}
use Rattle.order_laws.specs.Orders.{Order}
use Rattle.word_layout.specs.declared.stores.Store.{Store}
use Rattle.latch_core.specs.Attempts.{Outcome, Reading, Load, Ends, attempt}
use Rattle.latch_weak.specs.declared.barriers.Barriers.{Barriers}
use Rattle.latch_weak.specs.declared.attempts.ReaderView.{ReaderView}
use Rattle.latch_weak.specs.Views.{View, Glance, MayLoad, after_load, after_first, before_load}
use Rattle.latch_weak.specs.Loads.{value_at, view_after, IsWeakAttempt}

-- the view of a reader: of each word its own least moment or the floor, whichever is later
abbrev pub view_of : ReaderView → View
view_of r =
    record {
      of_word = λ u. max (get_or r.least.items u 0) r.floor;
      at_barrier = r.at_barrier;
    }

-- the number of the load after this one; after the greatest number comes 0
abbrev pub next_load : ℕ → ℕ
next_load i = (i + 1) % 2 ^ 64

-- it has to see no store that the writer does not make
pub record IsReaderOf (m : List ℕ) (ss : List Store) (r : ReaderView) : Type 0 where
  pub sized : length r.least.items ≡ length m
  pub seen : (u : ℕ) → (view_of r).of_word u ≤ length ss
  pub barrier : r.at_barrier ≤ length ss
  pub made : r.last.made ≤ length ss

-- what a schedule may choose for a load: by its number, its word, the load before it, the least
-- moment that it may show and the number of all stores
abbrev pub Choice : Type 1
Choice = ℕ → ℕ → Glance → ℕ → ℕ → Glance → Type 0

-- a load of a word from a view on gave this value, of the store that the schedule chose for it, and
-- left this view; it is the reader's last load, and is counted
pub record Gives (chooses : Choice) (m : List ℕ) (ss : List Store) (r : ReaderView) (from : View)
    (w x : ℕ) (r' : ReaderView) (to : View) : Type 0 where
  pub chosen : chooses r.loads w r.last (from.of_word w) (length ss) r'.last
  pub counted : r'.loads ≡ next_load r.loads
  pub may : MayLoad ss from w r.last.made r'.last
  pub value_is : x ≡ value_at m ss w r'.last
  pub view_is : view_of r' ≡ to
  pub still : IsReaderOf m ss r'

-- a load with no barrier before it
abbrev pub Looks : Choice → Barriers → List ℕ → List Store → ReaderView → ℕ → ℕ → ReaderView
    → Type 0
Looks chooses b m ss r w x r' =
    Gives chooses m ss r (view_of r) w x r' (after_load b ss (view_of r) w r'.last.moment)

-- a reader before a later load: it is after a read barrier if this is of word 0
pub record StandsBefore (b : Barriers) (r r' : ReaderView) (w : ℕ) : Type 0 where
  pub view : view_of r' ≡ before_load b (view_of r) w
  pub words : r'.least.items ≡ r.least.items
  pub barrier : r'.at_barrier ≡ r.at_barrier
  pub last : r'.last ≡ r.last
  pub loads : r'.loads ≡ r.loads

-- the first load of an attempt
abbrev pub LooksFirst : Choice → Barriers → List ℕ → List Store → ReaderView → ℕ → ReaderView
    → Type 0
LooksFirst chooses b m ss r x r' =
    Gives chooses m ss r (view_of r) 0 x r' (after_first b ss (view_of r) r'.last.moment)

-- a later one
abbrev pub LooksNext : Choice → Barriers → List ℕ → List Store → ReaderView → ℕ → ℕ → ReaderView
    → Type 0
LooksNext chooses b m ss r w x r' =
    let from = before_load b (view_of r) w in
    Gives chooses m ss r from w x r' (after_load b ss from w r'.last.moment)

-- the schedule chose each of the loads after the first one, from this number and this load on
abbrev pub AreChosen : Choice → Barriers → List ℕ → List Store → View → ℕ → Glance → Reading
    → List Glance → Type 0
AreChosen chooses b m ss v i last r [] = Unit {0}
AreChosen chooses b m ss v i last (Load w go) (g ∷ gs) =
    let from = before_load b v w in
    chooses i w last (from.of_word w) (length ss) g
    × AreChosen chooses b m ss (after_load b ss from w g.moment) (next_load i) g
    (go (value_at m ss w g)) gs
AreChosen chooses b m ss v i last (Ends out) (g ∷ gs) = ⊥

-- and each load of an attempt
abbrev pub AreChosenOf : Choice → Barriers → List ℕ → List Store → View → ℕ → Glance → Reading
    → List Glance → Type 0
AreChosenOf chooses b m ss v i last r [] = Unit {0}
AreChosenOf chooses b m ss v i last (Load w go) (g ∷ gs) =
    chooses i w last (v.of_word w) (length ss) g
    × AreChosen chooses b m ss (after_first b ss v g.moment) (next_load i) g
    (go (value_at m ss w g)) gs
AreChosenOf chooses b m ss v i last (Ends out) (g ∷ gs) = ⊥

-- a reader's number of loads, and its last one, after these
abbrev pub loads_after : ℕ → List Glance → ℕ
loads_after i [] = i
loads_after i (g ∷ gs) = loads_after (next_load i) gs

abbrev pub last_of : Glance → List Glance → Glance
last_of last [] = last
last_of last (g ∷ gs) = last_of g gs

module _ {K : Type 0} (chooses : Choice) (b : Barriers) (o : Order K) (n : ℕ) (m : List ℕ)
    (ss : List Store) where
  -- a whole attempt: its loads, each as the schedule chose it, its outcome, the view that it
  -- leaves, and that the reader goes on after its last load
  pub record HasAttempted (r : ReaderView) (k : K) (out : Outcome) (r' : ReaderView) : Type 0 where
    pub glances : List Glance
    pub tried : IsWeakAttempt b o n m ss (view_of r) r.last.made k glances out
    pub chosen : AreChosenOf chooses b m ss (view_of r) r.loads r.last (attempt o n k) glances
    pub leaves : view_of r' ≡ view_after b m ss (view_of r) (attempt o n k) glances
    pub last : r'.last ≡ last_of r.last glances
    pub counted : r'.loads ≡ loads_after r.loads glances
    pub still : IsReaderOf m ss r'
