-- The node in hand: reading it, writing it, taking it out.
use Rattle.std.specs.Prelude.{◌≡◌, ◌+◌, ◌-◌, Bool, true, false, Option, Some, None}
use Rattle.rb_trees.specs.declared.Record.{Record}
use Rattle.rb_trees.specs.Trees.{ColouredTree, tip, branch, coloured, blackened}
use Rattle.rb_cursor.specs.declared.nodes.Top.{Top}
use Rattle.rb_cursor.specs.Zippers.{Zipper}

-- the colour and the number of the node in hand, with what a caller does not see
pub record IsTop (tree : ColouredTree) (top : Top) : Type 0 where
  pub left : ColouredTree
  pub row : Record
  pub right : ColouredTree
  pub node : top.node ≡ row.node
  pub was : tree ≡ branch top.red left row right

abbrev pub HasTop : ColouredTree → Option Top → Type 0
HasTop tree None = tree ≡ tip
HasTop tree (Some top) = IsTop tree top

-- whether there is a node
abbrev pub is_fork : ColouredTree → Bool
is_fork tip = false
is_fork (branch red l x r) = true

abbrev pub row_of : ColouredTree → Option Record
row_of tip = None
row_of (branch red l x r) = Some x

-- another record in the node in hand
abbrev pub with_row : Record → ColouredTree → ColouredTree
with_row x tip = tip
with_row x (branch red l y r) = branch red l x r

-- the node in hand red
abbrev pub reddened : ColouredTree → ColouredTree
reddened t = coloured true t

-- the node in hand red, and its children black
abbrev pub red_over_black : ColouredTree → ColouredTree
red_over_black tip = tip
red_over_black (branch red l y r) = branch true (blackened l) y (blackened r)

-- a red leaf with this record in hand, and room for one less
abbrev pub planted : Record → Zipper → Zipper
planted x z = record { tree = branch true tip x tip; path = z.path; room = z.room - 1 }

-- a node that has one subtree at most
abbrev pub HasOneSubtree : ColouredTree → Type 0
HasOneSubtree tip = ⊥
HasOneSubtree (branch red tip x r) = Unit {0}
HasOneSubtree (branch red (branch k a y b) x r) = r ≡ tip

-- that subtree
abbrev pub only_subtree : ColouredTree → ColouredTree
only_subtree tip = tip
only_subtree (branch red tip x r) = r
only_subtree (branch red (branch k a y b) x r) = branch k a y b

-- that subtree in hand, in the place of the node, and room for one more
abbrev pub top_taken : Zipper → Zipper
top_taken z = record { tree = only_subtree z.tree; path = z.path; room = z.room + 1 }
