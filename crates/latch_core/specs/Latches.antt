-- The writer of a latched tree: which single steps it may make while an update is pending.
use Rattle.std.specs.Prelude.{◌≡◌, ◌≢◌, ℕ, ◌+◌, ◌-◌, ◌*◌, ◌<◌, ◌⊎◌, List, [], ◌∷◌, length}
use Rattle.std.specs.Prelude.{replicate, Option, Some, None, if◌then◌else◌, ◌==◌}
use Rattle.order_laws.specs.declared.items.Item.{Item}
use Rattle.word_layout.specs.declared.stores.Store.{Store}
use Rattle.order_laws.specs.Orders.{Order}
use Rattle.word_layout.specs.Words.{words_per_node, at, HoldsTable, InUse, IsUnreached}
use Rattle.word_layout.specs.Stores.{words_after, IsItemWord}
use Rattle.table_updates.specs.declared.updates.Update.{Update}
use Rattle.latch_core.specs.Sequences.{stable_copy_of}
use Rattle.table_updates.specs.Updates.{after}

-- a pending update: the table before it, the words when it began, how many flips it has made, how
-- many steps are to come
pub record PendingUpdate : Type 0 where
  pub old_table : List Item
  pub old_words : List ℕ
  pub flips_made : ℕ
  pub steps_left : ℕ

-- the words, the table after all accepted updates, and the pending update, which is the last of
-- them
pub record Latch : Type 0 where
  pub words : List ℕ
  pub newest_table : List Item
  pub pending : Option PendingUpdate

-- both copies hold a table
abbrev pub BothHold : List ℕ → ℕ → List Item → Type 0
BothHold m n table = HoldsTable m n 0 table × HoldsTable m n 1 table

-- a store that no reader of the stable copy can see; an item word only if the node was free at
-- the beginning and is free
pub record IsHidden (n : ℕ) (m : List ℕ) (began : List ℕ) (w : ℕ) : Type 0 where
  pub in_range : w < length m
  pub not_sequence : w ≢ 0
  pub not_in_use : InUse m n (stable_copy_of (at m 0)) w → ⊥
  pub item_words : (i : ℕ) → IsItemWord i w → IsUnreached began n i × IsUnreached m n i

-- the first flip leads readers to copy 1, the second back to copy 0
pub record IsFirstFlip (n : ℕ) (m : List ℕ) (h : PendingUpdate) (s : Store) : Type 0 where
  pub sequence : s.word ≡ 0
  pub adds_one : s.value ≡ at m 0 + 1
  pub is_even : stable_copy_of (at m 0) ≡ 0
  pub no_flip : h.flips_made ≡ 0
  pub both_old : BothHold m n h.old_table

pub record IsSecondFlip (n : ℕ) (m : List ℕ) (h : PendingUpdate) (new : List Item) (s : Store)
    : Type 0 where
  pub sequence : s.word ≡ 0
  pub adds_one : s.value ≡ at m 0 + 1
  pub is_odd : stable_copy_of (at m 0) ≡ 1
  pub one_flip : h.flips_made ≡ 1
  pub first_new : HoldsTable m n 0 new

-- the number of flips after a step
abbrev pub flips_after : ℕ → Store → ℕ
flips_after flips s = if s.word == 0 then flips + 1 else flips

-- the writer may make this step; the last one leaves two flips and the new table in both copies
pub record IsWriterStep (n : ℕ) (l : Latch) (h : PendingUpdate) (s : Store) : Type 0 where
  pub kind : IsHidden n l.words h.old_words s.word
      ⊎ (IsFirstFlip n l.words h s ⊎ IsSecondFlip n l.words h l.newest_table s)
  pub at_end : h.steps_left ≡ 1
      → (flips_after h.flips_made s ≡ 2) × BothHold (words_after l.words s) n l.newest_table

-- and leaves this
abbrev pub latch_after_step : Latch → PendingUpdate → Store → Latch
latch_after_step l h s =
    record l {
      words = words_after l.words s;
      pending =
          if h.steps_left == 1
          then None
          else Some (record h {
            flips_made = flips_after h.flips_made s;
            steps_left = h.steps_left - 1;
          });
    }

-- before any step: the sequence at its start, and all other words 0
abbrev pub opening_latch : ℕ → ℕ → Latch
opening_latch n start =
    record {
      words = start ∷ replicate (words_per_node * n + 2) 0;
      newest_table = [];
      pending = None;
    }

-- an update is accepted; how many steps it takes is the writer's choice
abbrev pub latch_with_update : {K : Type 0} → Order K → Latch → Update → ℕ → Latch
latch_with_update o l u left =
    record l {
      newest_table = after o l.newest_table u;
      pending = Some (record {
        old_table = l.newest_table;
        old_words = l.words;
        flips_made = 0;
        steps_left = left;
      });
    }
