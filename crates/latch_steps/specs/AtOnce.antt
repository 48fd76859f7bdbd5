-- What a world does at once: the writer's steps up to the end of an update, and a lookup from its
-- start to its return.
use Rattle.std.specs.Prelude.{◌≡◌, ℕ, ◌+◌, ◌≤◌, List, [], ◌∷◌, ◌++◌, Option, None, Result, IfErr}
use Rattle.std.specs.Prelude.{is_some, ◌⊎◌, true, ◌≢◌, ◌*◌, length}
use Rattle.std.specs.FinMap.{get}
use Rattle.table_updates.specs.declared.updates.Update.{Update}
use Rattle.order_laws.specs.declared.items.Item.{Item}
use Rattle.order_laws.specs.declared.refusals.Refusal.{Refusal}
use Rattle.order_laws.specs.declared.refusals.Refusal.TheVariants.{ReaderBusy, OutOfMemory}
use Rattle.latch_steps.specs.declared.events.Event.TheVariants.{Write, Start, Read}
use Rattle.latch_steps.specs.declared.replies.Returned.{Returned}
use Rattle.latch_steps.specs.declared.replies.Reply.TheVariants.{Started, Returned as ReturnedReply}
use Rattle.order_laws.specs.Orders.{Order}
use Rattle.word_layout.specs.Words.{at, words_for}
use Rattle.latch_core.specs.Attempts.{Answer, Again, attempt}
use Rattle.word_layout.specs.Layouts.{capacity_of}
use Rattle.latch_steps.specs.declared.worlds.World.{World}
use Rattle.latch_steps.specs.Runs.{Moment, Done, step_done, last_of}
use Rattle.latch_steps.specs.Steps.{Run, with_event}
use Rattle.std.specs.List.{AllByRecursion}
use Rattle.latch_core.specs.Sequences.{generation_of}
use Rattle.latch_core.specs.Histories.{current_table}
use Rattle.latch_core.specs.Whole.{outcome_in, loads_in}
use Rattle.latch_steps.specs.Near.{IsDepth}
use Rattle.latch_steps.specs.Plain.{IsLookIn}
use Rattle.latch_steps.specs.Worlds.{RepresentsMoment, layout_in, machine_in, IsAfter}

-- the current table of a world after these updates
abbrev pub table_in : {O K : Type 0} {o : Order K} {start' : ℕ} {us : List Update} {c : World O K}
    → IsAfter o start' us c → List Item
table_in {o = o} {start' = start'} {us = us} h = current_table o start' us h.moment.latch.words

-- no update is pending, and the current table is the one after all of them
pub record IsSettled {O K : Type 0} (o : Order K) (start' : ℕ) (us : List Update)
    (c : World O K) : Type 0 where
  pub after : IsAfter o start' us c
  pub rest : after.moment.latch.pending ≡ None
  pub current : table_in after ≡ after.moment.latch.newest_table

-- writes lead from each moment that the old world shows to one with no pending update
pub record Settles {O K : Type 0} (o : Order K) (old : World O K) (w : Moment K)
    (new : World O K) : Type 0 where
  pub run : List (Done K)
  pub writes : AllByRecursion (λ d. d.event ≡ Write) run
  pub steps : Run (machine_in o old) w run
  pub shows : RepresentsMoment o new (last_of w run)
  pub rest : (last_of w run).latch.pending ≡ None

-- what a lookup of this key by this reader returns that no step of the writer meets, in this table
-- of this generation
pub record IsFoundNow {K : Type 0} (o : Order K) (table : List Item) (g r : ℕ) (k : K)
    (x : Returned K) : Type 0 where
  pub reader : x.reader ≡ r
  pub key : x.key ≡ k
  pub look : IsLookIn o table g x

-- and its loads are four for each node on a way down at most, and three
abbrev pub IsNear : {K : Type 0} → List Item → Returned K → Type 0
IsNear table x = (depth : ℕ) × IsDepth (length table) depth × (x.loads ≤ 4 * depth + 3)

-- a start and reads lead from a moment to the return of the lookup
pub record FindsNow {O K : Type 0} (o : Order K) (old : World O K) (w : Moment K) (r : ℕ) (k : K)
    (x : Returned K) (new : World O K) : Type 0 where
  pub begun : Moment K
  pub run : List (Done K)
  pub done : Moment K
  pub reads : AllByRecursion (λ d. d.event ≡ Read r) run
  pub steps :
      Run (machine_in o old) w
      (step_done (Start r k) Started begun ∷ run ++ step_done (Read r) (ReturnedReply x) done ∷ [])
  pub shows : RepresentsMoment o new done

-- a lookup that was not begun: because memory ran out, if the reader has none pending, with
-- nothing changed; or since it has
abbrev pub IsNotBegun : {O K : Type 0} (o : Order K) {start' : ℕ} {us : List Update} {c : World O K}
    → IsAfter o start' us c → ℕ → Refusal → World O K → Type 0
IsNotBegun o h r why new =
    ((why ≡ OutOfMemory) × (get h.moment.lookups r ≡ None) × RepresentsMoment o new h.moment)
    ⊎ ((why ≡ ReaderBusy) × (is_some (get h.moment.lookups r) ≡ true)
    × RepresentsMoment o new (with_event h.moment))

-- an attempt in the world's words gives this, of this generation, after this many loads
pub record LooksUp {O K : Type 0} (o : Order K) (c : World O K) (k : K) (answer : Option Item)
    (g loads : ℕ) : Type 0 where
  pub comes_to : outcome_in c.words.items (attempt o (capacity_of (layout_in c)) k)
      ≡ Answer answer g
  pub counts : loads_in c.words.items (attempt o (capacity_of (layout_in c)) k) ≡ loads

-- the words do not fit its layout, or no attempt in them gives an answer
abbrev pub HasNoAnswer : {O K : Type 0} → Order K → World O K → K → Type 0
HasNoAnswer o c k =
    (length c.words.items ≢ words_for (capacity_of (layout_in c)))
    ⊎ (outcome_in c.words.items (attempt o (capacity_of (layout_in c)) k) ≡ Again)

-- so from each moment that the old world shows
abbrev pub SettlesFromAny : {O K : Type 0} → Order K → World O K → World O K → Type 0
SettlesFromAny {O} {K} o old new = (w : Moment K) → RepresentsMoment o old w → Settles o old w new

abbrev pub FindsFromAny :
    {O K : Type 0} → Order K → World O K → ℕ → K → World O K → Returned K → Type 0
FindsFromAny {O} {K} o old r k new x =
    (w : Moment K) → RepresentsMoment o old w → FindsNow o old w r k x new

-- and after whatever updates the old world is
abbrev pub IsSettledFromAny : {O K : Type 0} → Order K → World O K → World O K → Type 0
IsSettledFromAny o old new =
    (start : ℕ) (us : List Update) → IsAfter o start us old → IsSettled o start us new

abbrev pub IsFoundFromAny : {O K : Type 0} → Order K → World O K → ℕ → K → Returned K → Type 0
IsFoundFromAny o old r k x =
    (start : ℕ) (us : List Update) (h : IsAfter o start us old)
    → IsFoundNow o (table_in h) (generation_of (at h.moment.latch.words 0)) r k x

abbrev pub IsNearFromAny : {O K : Type 0} → Order K → World O K → Returned K → Type 0
IsNearFromAny o old x =
    (start : ℕ) (us : List Update) (h : IsAfter o start us old)
    → IsNear (table_in h) x

abbrev pub KeepsUpdates : {O K : Type 0} → Order K → World O K → World O K → Type 0
KeepsUpdates o old new =
    (start : ℕ) (us : List Update) → IsAfter o start us old → IsAfter o start us new

abbrev pub IsNotBegunFromAny :
    {O K : Type 0} → Order K → World O K → ℕ → World O K → Result (Returned K) Refusal → Type 0
IsNotBegunFromAny o old r new result =
    (start : ℕ) (us : List Update) (h : IsAfter o start us old)
    → IfErr result (λ e. IsNotBegun o h r e new)
