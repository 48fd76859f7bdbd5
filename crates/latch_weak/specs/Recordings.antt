-- What a writer has made so far, and which stores its core hands out.
use Rattle.std.specs.Prelude.{◌≡◌, ℕ, ◌<◌, ◌≤◌, ◌⊎◌, List, [], ◌∷◌, ◌++◌, Some, None}
use Rattle.order_laws.specs.declared.refusals.Refusal.{Refusal}
use Rattle.order_laws.specs.Orders.{Order}
use Rattle.word_layout.specs.declared.layouts.Layout.{Layout}
use Rattle.word_layout.specs.Layouts.{capacity_of, limit_of}
use Rattle.word_layout.specs.declared.stores.Store.{Store}
use Rattle.table_updates.specs.declared.updates.Update.{Update}
use Rattle.table_updates.specs.Updates.{most_steps}
use Rattle.latch_core.specs.Latches.{PendingUpdate, Latch, IsWriterStep, latch_after_step}
use Rattle.latch_core.specs.Latches.{latch_with_update, opening_latch}
use Rattle.latch_core.specs.Writers.{RepresentsLatch, HasBegun, latch_refusal, opening_writer}
use Rattle.latch_core.specs.Writers.{writer_after_step}
use Rattle.latch_core.specs.Writers.{IsOpeningRefused, IsRefusedBy}
use Rattle.latch_core.specs.WriterViews.{WriterView}
use Rattle.latch_weak.specs.Works.{Deed, Begins, Stores, stores_of, updates_of}

-- lawful deeds lead from one latch to another
abbrev pub WorksTo : {K : Type 0} → Order K → ℕ → ℕ → Latch → List Deed → Latch → Type 0
WorksTo o n limit l [] l' = l' ≡ l
WorksTo o n limit l (Begins u left ∷ rest) l' =
    (latch_refusal o n limit l u ≡ None) × (0 < left) × (left ≤ most_steps n u)
    × WorksTo o n limit (latch_with_update o l u left) rest l'
WorksTo o n limit l (Stores s ∷ rest) l' =
    (h : PendingUpdate) × (l.pending ≡ Some h) × IsWriterStep n l h s
    × WorksTo o n limit (latch_after_step l h s) rest l'

-- the writer has carried these updates out from the opening on, and has made these stores
pub record HasMade {K : Type 0} (o : Order K) (n limit start : ℕ) (us : List Update)
    (ss : List Store) (w : WriterView) : Type 0 where
  pub latch : Latch
  pub deeds : List Deed
  pub works : WorksTo o n limit (opening_latch n start) deeds latch
  pub updates_are : updates_of deeds ≡ us
  pub stores_are : stores_of deeds ≡ ss
  pub pictures : RepresentsLatch w latch
  pub capacity : w.capacity ≡ n
  pub limit_is : w.limit ≡ limit

-- the core after it has made these stores
abbrev pub writer_after_all : WriterView → List Store → WriterView
writer_after_all w [] = w
writer_after_all w (s ∷ ss) = writer_after_all (writer_after_step w s) ss

-- the core carries an update out: it begins it, and makes all the stores that it then has left
pub record CarriesOut {K : Type 0} (o : Order K) (w : WriterView) (u : Update)
    (made : List Store) (w' : WriterView) : Type 0 where
  pub begun : WriterView
  pub begins : HasBegun o w u begun
  pub made_are : made ≡ begun.stores_left
  pub after : w' ≡ writer_after_all begun begun.stores_left

-- it carries these updates out, one after another, and makes these stores in all
abbrev pub CarriesOutAll : {K : Type 0} → Order K → WriterView → List Update → List Store
    → WriterView → Type 0
CarriesOutAll o w [] ss w' = (ss ≡ []) × (w' ≡ w)
CarriesOutAll o w (u ∷ us) ss w' =
    (made : List Store) × (rest : List Store) × (m : WriterView) × CarriesOut o w u made m
    × (ss ≡ made ++ rest) × CarriesOutAll o m us rest w'

-- the stores are made by a core that is opened at this layout and sequence, and carries these
-- updates out, each to its end
abbrev pub AreStoresOfCore : {K : Type 0} → Order K → Layout → ℕ → List Update → List Store
    → Type 0
AreStoresOfCore o l start us ss =
    (w : WriterView) × CarriesOutAll o (opening_writer l start) us ss w

-- the recording stops at an update: the core has carried out those before it, and refuses it
pub record StopsAt {K : Type 0} (o : Order K) (l : Layout) (start : ℕ) (us : List Update)
    (e : Refusal) : Type 0 where
  pub before : List Update
  pub stopper : Update
  pub rest : List Update
  pub split : us ≡ before ++ stopper ∷ rest
  pub stores : List Store
  pub writer : WriterView
  pub made : HasMade o (capacity_of l) (limit_of l) start before stores writer
  pub carried : CarriesOutAll o (opening_writer l start) before stores writer
  pub refused : IsRefusedBy o writer stopper e

-- why there is no recording: no table is opened, or an update is refused
abbrev pub RefusesRecording : {K : Type 0} → Order K → Layout → ℕ → List Update → Refusal → Type 0
RefusesRecording o l start us e =
    IsOpeningRefused l start e ⊎ StopsAt o l start us e

-- of these stores the last ones are of that update
abbrev pub HasCarriedOut : {K : Type 0} → Order K → List Store → WriterView → Update → List Store
    → WriterView → Type 0
HasCarriedOut o ss w u ss' w' =
    (made : List Store) × CarriesOut o w u made w' × (ss' ≡ ss ++ made)

-- whatever it has carried out, it has now carried these updates out too
abbrev pub Continues : {K : Type 0} → Order K → List Store → WriterView → List Update → List Store
    → WriterView → Type 0
Continues o ss w more ss' w' =
    (n limit start : ℕ) (us : List Update) → HasMade o n limit start us ss w
    → HasMade o n limit start (us ++ more) ss' w'
