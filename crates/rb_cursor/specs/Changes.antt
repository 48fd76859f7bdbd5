-- What an insert and an erase make of the records, and of the list of stores.
use Rattle.std.specs.Prelude.{◌≡◌, ℕ, ◌+◌, ◌≤◌, Bool, true, false, List, [], ◌∷◌, ◌++◌, Some}
use Rattle.std.specs.Prelude.{length, insert}
use Rattle.std.specs.declared.vec.Vec.{Vec}
use Rattle.order_laws.specs.Orders.{Order}
use Rattle.order_laws.specs.Tables.{place_for}
use Rattle.word_layout.specs.declared.stores.Store.{Store}
use Rattle.rb_trees.specs.declared.Record.{Record}
use Rattle.rb_trees.specs.Trees.{ColouredTree, shape, rows}
use Rattle.rb_trees.specs.Turns.{link, moved}
use Rattle.rb_trees.specs.Linked.{Lead}
use Rattle.rb_trees.specs.Found.{items_of_records}
use Rattle.rb_trees.specs.Paths.{Above}
use Rattle.rb_trees.specs.Replaced.{Lost}
use Rattle.rb_cursor.specs.Zippers.{Zipper}
use Rattle.rb_cursor.specs.Stores.{Adds}
use Rattle.rb_cursor.specs.Tops.{row_of}

-- the new records are the old ones with this one at its place
abbrev pub PutsIn : {K : Type 0} → Order K → Record → List Record → List Record → Type 0
PutsIn o x old new = new ≡ insert old (place_for o x.item (items_of_records old)) x

-- the new records are the old ones without this one
pub record TakesOut (x : Record) (old new : List Record) : Type 0 where
  pub front : List Record
  pub back : List Record
  pub was : old ≡ front ++ x ∷ back
  pub now : new ≡ front ++ back

-- stores were added that lead from one tree to another, in each memory with room for the first and
-- for some other nodes
pub record AddsLinks {Z : Type 0} (others : ℕ → Type 0) (copy : ℕ) (t u : ColouredTree)
    (old new : Vec Store Z) : Type 0 where
  pub links : List Store
  pub stores : Adds old links new
  pub lead : Lead others copy (shape t) (shape u) links

-- the most links that a climb stores: if the subtree is short at first, one to it, eight of a fill
-- and one to what was filled; else one
abbrev pub most_on_climb : Bool → ℕ
most_on_climb true = 10
most_on_climb false = 1

-- the climb of an erase up to a depth: before is the link that led to the tree in hand
module _ (copy depth before : ℕ) (was_short : Bool) where
  -- from a tree that lost some nodes, at the end of a part of the path, to the whole of that part
  pub record Climbs (from to : Zipper) (short : Bool) (links : List Store) : Type 0 where
    pub few : length links ≤ most_on_climb was_short
    pub climbs : (part base : List Above) (whole was : ColouredTree) (rs : List Record)
        (gone : List ℕ) (ss : List Store) → from.path ≡ part ++ base → depth ≡ length base →
        before ≡ link (shape was) → Lost copy gone whole rs part was from.tree ss was_short →
        Lost copy gone whole rs [] whole to.tree (ss ++ links) short × (to.path ≡ base)
        × (length links + moved (link (shape whole)) (link (shape to.tree))
        ≤ most_on_climb was_short)
        × (short ≡ true → length links ≤ 1)

-- a tree without its first record, which was this one
pub record TakesFirst (copy : ℕ) (t u : ColouredTree) (row : Record) (short : Bool)
    (links : List Store) : Type 0 where
  pub in_order : rows t ≡ row ∷ rows u
  pub lost : Lost copy (row.node ∷ []) t (rows u) [] t u links short
  pub few : length links ≤ 10
  pub fewer : short ≡ true → length links ≤ 1

-- a tree without the record of its top
pub record TakesTop (copy : ℕ) (t u : ColouredTree) (short : Bool) (links : List Store) :
    Type 0 where
  pub row : Record
  pub front : List Record
  pub back : List Record
  pub top : row_of t ≡ Some row
  pub was : rows t ≡ front ++ row ∷ back
  pub lost : Lost copy [] t (front ++ back) [] t u links short
  pub few : length links ≤ 12
  pub fewer : short ≡ true → length links ≤ 3
