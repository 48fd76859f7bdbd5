-- What a writer's core knows of the words, and when it accepts an update.
use Rattle.std.specs.Prelude.{◌≡◌, ◌⊎◌, ℕ, ◌+◌, ◌*◌, ◌<◌, ◌≤◌, Bool, List, [], ◌∷◌, ◌++◌, length}
use Rattle.std.specs.Prelude.{Option, Some, None, is_some, MatchOption, All, nat_lt, slice_get}
use Rattle.std.specs.Prelude.{drop, if◌then◌else◌, ◌==◌}
use Rattle.order_laws.specs.declared.refusals.Refusal.{Refusal}
use Rattle.order_laws.specs.declared.refusals.Refusal.TheVariants.{BadCapacity, OutOfMemory}
use Rattle.order_laws.specs.Orders.{Order}
use Rattle.word_layout.specs.declared.layouts.Layout.{Layout}
use Rattle.word_layout.specs.declared.stores.Store.{Store}
use Rattle.word_layout.specs.Layouts.{capacity_of, limit_of}
use Rattle.word_layout.specs.Words.{at, words_for, Nodes, none, listed, Holds}
use Rattle.word_layout.specs.Stores.{words_after, words_after_all}
use Rattle.order_laws.specs.declared.items.Item.{Item}
use Rattle.rb_trees.specs.Trees.{IsBalanced}
use Rattle.rb_words.specs.Pictures.{Picture}
use Rattle.table_updates.specs.declared.updates.Update.{Update}
use Rattle.latch_core.specs.Sequences.{stable_copy_of}
use Rattle.table_updates.specs.Updates.{refusal_for, after, size_of, most_steps}
use Rattle.latch_core.specs.Latches.{Latch, PendingUpdate, IsWriterStep, latch_after_step}
use Rattle.latch_core.specs.Latches.{latch_with_update}
use Rattle.latch_core.specs.Plans.{IsPlan}
use Rattle.latch_core.specs.FreeNodes.{AreAllNodes}
use Rattle.latch_core.specs.WriterViews.{WriterView}

-- the store to be made next
abbrev pub next_store : WriterView → Option Store
next_store w = slice_get w.stores_left 0

-- an update has begun and is not at its end
abbrev pub has_pending : WriterView → Bool
has_pending w = nat_lt 0 (length w.stores_left)

-- why the core refuses an update, or none
abbrev pub why_refused : {K : Type 0} → Order K → WriterView → Update → Option Refusal
why_refused o w u = refusal_for o w.capacity w.limit (has_pending w) w.table w.sequence u

-- why a latch refuses an update, or none: at n nodes and a greatest sequence
abbrev pub latch_refusal : {K : Type 0} → Order K → ℕ → ℕ → Latch → Update → Option Refusal
latch_refusal o n limit l u =
    refusal_for o n limit (is_some l.pending) l.newest_table (at l.words 0) u

-- a memory at rest: both copies hold the core's table, in its trees, and both trees are red-black
pub record IsMemoryAtRest (w : WriterView) (m : List ℕ) : Type 0 where
  pub sized : length m ≡ words_for w.capacity
  pub even : stable_copy_of (at m 0) ≡ 0
  pub zero : Holds m w.capacity 0 w.table w.zero_tree
  pub one : Holds m w.capacity 1 w.table w.one_tree
  pub zero_balanced : IsBalanced w.zero_tree
  pub one_balanced : IsBalanced w.one_tree

-- the stable copy holds a table in a red-black tree
abbrev pub IsShallow : ℕ → List ℕ → Type 0
IsShallow n m =
    (table : List Item) × (tree : Nodes)
    × Holds m n (stable_copy_of (at m 0)) table tree × IsBalanced tree

-- now, and after each of these stores
abbrev pub StaysShallow : ℕ → List ℕ → List Store → Type 0
StaysShallow n m [] = IsShallow n m
StaysShallow n m (s ∷ ss) = IsShallow n m × StaysShallow n (words_after m s) ss

-- the core pictures a latch: the stores that are left carry the pending update to its end, and then
-- the memory is at rest
pub record RepresentsLatch (w : WriterView) (l : Latch) : Type 0 where
  pub plan : IsPlan w.capacity l w.stores_left
  pub at_rest : IsMemoryAtRest w (words_after_all l.words w.stores_left)
  pub table : l.newest_table ≡ w.table
  pub sequence : at l.words 0 ≡ w.sequence
  pub shallow : StaysShallow w.capacity l.words w.stores_left

-- a store that may be made next: on each latch that the core pictures it is a step of the pending
-- update, and with none left no update is pending
abbrev pub MayBeNext : WriterView → Option Store → Type 0
MayBeNext w next =
    (l : Latch) → RepresentsLatch w l
    → MatchOption next (l.pending ≡ None)
    (λ s. (h : PendingUpdate) × (l.pending ≡ Some h) × IsWriterStep w.capacity l h s)

-- the next store leads from what the one core pictures to what the other does
abbrev pub StoresNext : WriterView → WriterView → Type 0
StoresNext old new =
    (l : Latch) (h : PendingUpdate) (s : Store)
    → RepresentsLatch old l → l.pending ≡ Some h → next_store old ≡ Some s
    → RepresentsLatch new (latch_after_step l h s)

-- the latch that is pictured refuses what the core refuses
abbrev pub RefusesAsRepresented : {K : Type 0} → Order K → WriterView → Update → Type 0
RefusesAsRepresented o w u =
    (l : Latch) → RepresentsLatch w l
    → latch_refusal o w.capacity w.limit l u ≡ why_refused o w u

-- an update is refused by what its tests say, and else because memory ran out
abbrev pub IsRefusedBy : {K : Type 0} → Order K → WriterView → Update → Refusal → Type 0
IsRefusedBy o w u e =
    (why_refused o w u ≡ Some e) ⊎ ((why_refused o w u ≡ None) × (e ≡ OutOfMemory))

-- a core that has made nothing
abbrev pub opening_writer : Layout → ℕ → WriterView
opening_writer l start =
    record {
      capacity = capacity_of l;
      limit = limit_of l;
      sequence = start;
      table = [];
      zero_tree = none;
      one_tree = none;
      stores_left = [];
    }

-- an opening sequence is even and not above the limit
abbrev pub MayOpen : Layout → ℕ → Type 0
MayOpen l start = (stable_copy_of start ≡ 0) × (start ≤ limit_of l)

-- an opening is refused by its sequence, and else because memory ran out
abbrev pub IsOpeningRefused : Layout → ℕ → Refusal → Type 0
IsOpeningRefused l start e =
    ((e ≡ BadCapacity) × (MayOpen l start → ⊥)) ⊎ ((e ≡ OutOfMemory) × MayOpen l start)

-- the sequence after a store
abbrev pub sequence_after : ℕ → Store → ℕ
sequence_after seq s = if s.word == 0 then s.value else seq

-- the core after its next store was made
abbrev pub writer_after_step : WriterView → Store → WriterView
writer_after_step w s =
    record w { sequence = sequence_after w.sequence s; stores_left = drop 1 w.stores_left }

-- One picture, of copy 0, serves both copies: its nodes and the free ones are all that there are.
-- The stores that are left lie in the memory.
pub record AreInStep (n : ℕ) (zero : Picture) (free : List ℕ) (left : List Store) : Type 0 where
  pub capacity : zero.capacity ≡ n
  pub copy : zero.copy ≡ 0
  pub nodes : AreAllNodes n (free ++ listed zero.tree)
  pub in_range : All (λ s. s.word < words_for n) left

-- the new core has the pending update: its table is the one after it, and on each latch that the
-- old core pictures the stores that it planned carry the update out
pub record HasBegun {K : Type 0} (o : Order K) (old : WriterView) (u : Update) (new : WriterView)
    : Type 0 where
  pub rest : new ≡ record old {
    table = after o old.table u;
    zero_tree = new.zero_tree;
    one_tree = new.one_tree;
    stores_left = new.stores_left;
  }
  pub some : 0 < length new.stores_left
  pub few : length new.stores_left ≤ most_steps old.capacity u
  -- at most 16 for each item in each copy, and two flips
  pub short : length new.stores_left ≤ 2 * (16 * size_of u) + 2
  pub pictures : (l : Latch) → RepresentsLatch old l
      → RepresentsLatch new (latch_with_update o l u (length new.stores_left))
