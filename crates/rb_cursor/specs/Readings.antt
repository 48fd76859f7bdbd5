-- What a reading of a tree shows.
use Rattle.std.specs.Prelude.{◌≡◌, ◌<◌, Option, Some, None}
use Rattle.rb_trees.specs.Trees.{ColouredTree, tip, branch}
use Rattle.rb_cursor.specs.Keyed.{record_of}
use Rattle.rb_cursor.specs.Opening.{weight}
use Rattle.rb_cursor.specs.declared.readings.Fork.{Fork}

pub record IsForked (tree : ColouredTree) (f : Fork) : Type 0 where
  pub was : tree ≡ branch f.node.now.red f.left (record_of f.node.now) f.right
  pub left_less : weight f.left < weight tree
  pub right_less : weight f.right < weight tree

-- the top of a tree with its two subtrees, if there is one
abbrev pub Forked : ColouredTree → Option Fork → Type 0
Forked tree None = tree ≡ tip
Forked tree (Some f) = IsForked tree f
