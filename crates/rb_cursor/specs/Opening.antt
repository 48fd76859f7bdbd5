-- Going down, and the nearest node above.
use Rattle.std.specs.Prelude.{◌≡◌, ℕ, suc, ◌+◌, ◌<◌, List, [], ◌∷◌, Option, Some, None}
use Rattle.rb_trees.specs.declared.Record.{Record}
use Rattle.rb_trees.specs.Trees.{ColouredTree, tip, branch}
use Rattle.rb_trees.specs.declared.Side.{Side}
use Rattle.rb_cursor.specs.declared.nodes.Top.{Top}
use Rattle.rb_cursor.specs.declared.nodes.Nearest.{Nearest}
use Rattle.rb_trees.specs.Sides.{sided}
use Rattle.rb_trees.specs.Paths.{Above}
use Rattle.rb_cursor.specs.Zippers.{Zipper}

-- how many nodes a tree has
abbrev pub weight : ColouredTree → ℕ
weight tip = 0
weight (branch red l x r) = suc (weight l + weight r)

-- the node in hand is opened, and its subtree on a side is in hand
pub record OpensSide (side : Side) (old new : Zipper) (top : Top) : Type 0 where
  pub row : Record
  pub other : ColouredTree
  pub node : top.node ≡ row.node
  pub was : old.tree ≡ sided side top.red new.tree row other
  pub path : new.path
      ≡ record { side = side; red = top.red; row = row; other = other } ∷ old.path
  pub room : new.room ≡ old.room
  pub less : weight new.tree < weight old.tree

-- if there is no node, nothing is done
abbrev pub Opened : Side → Zipper → Zipper → Option Top → Type 0
Opened side old new None = (old.tree ≡ tip) × (new ≡ old)
Opened side old new (Some top) = OpensSide side old new top

-- the nearest node above, with what a caller does not see
pub record IsNearest (path : List Above) (up : Nearest) : Type 0 where
  pub row : Record
  pub other : ColouredTree
  pub rest : List Above
  pub node : up.node ≡ row.node
  pub was : path ≡ record { side = up.side; red = up.red; row = row; other = other } ∷ rest

abbrev pub HasNearest : List Above → Option Nearest → Type 0
HasNearest path None = path ≡ []
HasNearest path (Some up) = IsNearest path up
