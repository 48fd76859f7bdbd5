-- A link to a tree of records in a slab.
use Rattle.std.specs.Prelude.{◌≡◌, ℕ, ◌≤◌}
use Rattle.slab.specs.Slab.{Slab}
use Rattle.rb_trees.specs.Trees.{ColouredTree}
use Rattle.rb_cursor.specs.declared.nodes.Node.{Node}
use Rattle.rb_cursor.specs.Keyed.{Keyed, link_of, size, IsLinked, tree_from}

-- the link leads to a tree that is in the slab
pub record IsLink (s : Slab Node) (link : ℕ) : Type 0 where
  pub tree : Keyed
  pub link_is : link ≡ link_of tree
  pub linked : IsLinked s tree
  pub fits : size tree ≤ s.capacity

-- that tree
unfoldable pub read : Slab Node → ℕ → ColouredTree
read s link = tree_from s s.capacity link
