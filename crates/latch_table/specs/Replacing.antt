-- A table whose items are replaced by others, as one update.
use Rattle.std.specs.Prelude.{◌≡◌, ◌⊎◌, ◌≤◌, ℕ, true, not, List, [], ◌∷◌, length, Option, Some}
use Rattle.std.specs.Prelude.{None, is_some}
use Rattle.order_laws.specs.declared.items.Item.{Item}
use Rattle.order_laws.specs.declared.refusals.Refusal.{Refusal}
use Rattle.order_laws.specs.declared.refusals.Refusal.TheVariants.{OutOfMemory, Overlap}
use Rattle.order_laws.specs.declared.refusals.Refusal.TheVariants.{UpdateInHand}
use Rattle.order_laws.specs.Orders.{Order}
use Rattle.word_layout.specs.Words.{at, Nodes, listed, items, Leads}
use Rattle.table_updates.specs.declared.updates.Update.{Update}
use Rattle.table_updates.specs.Updates.{after, first_that_holds}
use Rattle.latch_core.specs.declared.replacements.Difference.{Difference}
use Rattle.latch_core.specs.Replacements.{replacement, is_rising, replacing_refusal, Tells}
use Rattle.latch_table.specs.Writers.{WriterState, writer_refusal, Begins}

-- a link of copy 0 leads to a tree of `most` nodes at most
abbrev pub LeadsToFew : List ℕ → ℕ → ℕ → ℕ → Type 0
LeadsToFew m n link most = (t : Nodes) × Leads m n 0 link t × (length (listed t) ≤ most)

-- a difference from a list was given the items of the tree that a link of copy 0 leads to
abbrev pub TellsTree : {K : Type 0} → Order K → List Item → List ℕ → ℕ → ℕ → Difference → Difference
    → Type 0
TellsTree o list m n link d d' = (t : Nodes) → Leads m n 0 link t → Tells o list d (items m t) d'

-- the update makes the table these items, if it is accepted
pub record IsReplacement {K : Type 0} (o : Order K) (w : WriterState) (list : List Item)
    (u : Update) : Type 0 where
  pub rests : w.latch.pending ≡ None
  pub rises : is_rising o list ≡ true
  pub is : u ≡ replacement w.latch.newest_table list
  pub leaves : writer_refusal o w u ≡ None → after o w.latch.newest_table u ≡ list

-- the replacement of the table by these items is pending, and the table after it is these items
pub record BeginsReplacing {K : Type 0} (o : Order K) (w : WriterState) (list : List Item)
    (w' : WriterState) : Type 0 where
  pub rises : is_rising o list ≡ true
  pub begins : Begins o w (replacement w.latch.newest_table list) w'
  pub newest : w'.latch.newest_table ≡ list

-- why no update is made of these items, or none: one is pending, or the items do not rise
abbrev pub list_refusal : {K : Type 0} → Order K → WriterState → List Item → Option Refusal
list_refusal o w list =
    first_that_holds
    ((is_some w.latch.pending, UpdateInHand) ∷ (not (is_rising o list), Overlap) ∷ [])

-- no update is made of these items for that reason; and else because memory ran out
abbrev pub RefusesList : {K : Type 0} → Order K → WriterState → List Item → Refusal → Type 0
RefusesList o w list e =
    (list_refusal o w list ≡ Some e) ⊎ ((list_refusal o w list ≡ None) × (e ≡ OutOfMemory))

-- what is against a table of these items; or memory ran out, if no update is pending and the
-- items rise
abbrev pub RefusesReplacing : {K : Type 0} → Order K → WriterState → List Item → Refusal → Type 0
RefusesReplacing o w list e =
    (replacing_refusal o w.capacity w.limit (is_some w.latch.pending) w.latch.newest_table
    (at w.latch.words 0) list
    ≡ Some e)
    ⊎ ((list_refusal o w list ≡ None) × (e ≡ OutOfMemory))
