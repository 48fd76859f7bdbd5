-- What the writer of a latch does. It alone stores, so the words of a moment are the opening words
-- after some of its stores.
use Rattle.std.specs.Prelude.{◌≡◌, ℕ, ◌<◌, ◌≤◌, List, [], ◌∷◌, take, Some, None}
use Rattle.order_laws.specs.Orders.{Order}
use Rattle.word_layout.specs.declared.stores.Store.{Store}
use Rattle.word_layout.specs.Stores.{words_after_all}
use Rattle.table_updates.specs.declared.updates.Update.{Update}
use Rattle.table_updates.specs.Updates.{most_steps}
use Rattle.latch_core.specs.Latches.{PendingUpdate, Latch, IsWriterStep, latch_after_step}
use Rattle.latch_core.specs.Latches.{latch_with_update, opening_latch}
use Rattle.latch_core.specs.Writers.{latch_refusal}

-- one thing that the writer does: it begins an update that is to take some steps, or stores
pub data Deed : Type 0 where
  Begins : Update → ℕ → Deed
  Stores : Store → Deed

-- its deeds are lawful from a latch on: each update is one that is not refused, each store is a
-- writer step
abbrev pub Works : {K : Type 0} → Order K → ℕ → ℕ → Latch → List Deed → Type 0
Works o n limit l [] = Unit {0}
Works o n limit l (Begins u left ∷ rest) =
    (latch_refusal o n limit l u ≡ None) × (0 < left) × (left ≤ most_steps n u)
    × Works o n limit (latch_with_update o l u left) rest
Works o n limit l (Stores s ∷ rest) =
    (h : PendingUpdate) × (l.pending ≡ Some h) × IsWriterStep n l h s
    × Works o n limit (latch_after_step l h s) rest

-- its stores, in the order of its program; and the updates that it began
abbrev pub stores_of : List Deed → List Store
stores_of [] = []
stores_of (Begins u left ∷ rest) = stores_of rest
stores_of (Stores s ∷ rest) = s ∷ stores_of rest

abbrev pub updates_of : List Deed → List Update
updates_of [] = []
updates_of (Begins u left ∷ rest) = u ∷ updates_of rest
updates_of (Stores s ∷ rest) = updates_of rest

-- the stores of a lawful writer that carries these updates out, in order, from the opening on
pub record AreStoresOf {K : Type 0} (o : Order K) (n limit start : ℕ) (us : List Update)
    (ss : List Store) : Type 0 where
  pub deeds : List Deed
  pub works : Works o n limit (opening_latch n start) deeds
  pub updates_are : updates_of deeds ≡ us
  pub stores_are : stores_of deeds ≡ ss

-- the words at a moment: after that many of the stores
abbrev pub words_at : List ℕ → List Store → ℕ → List ℕ
words_at m ss i = words_after_all m (take i ss)
