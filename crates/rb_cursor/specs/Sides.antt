-- The two sides of a node in a slab.
use Rattle.std.specs.Prelude.{ℕ, Bool, true, false}
use Rattle.rb_trees.specs.declared.Side.{Side}
use Rattle.rb_trees.specs.declared.Side.TheVariants.{Left, Right}
use Rattle.rb_cursor.specs.declared.nodes.Node.{Node}

-- the left side, or else the right one
abbrev pub side_by : Bool → Side
side_by true = Left
side_by false = Right

-- the link to the subtree on a side
abbrev pub child_at : Side → Node → ℕ
child_at Left n = n.left
child_at Right n = n.right

-- the node with another link on this side
abbrev pub with_link : Side → ℕ → Node → Node
with_link Left link n = record n { left = link }
with_link Right link n = record n { right = link }
