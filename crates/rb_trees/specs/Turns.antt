-- Rotations: a child takes the place of a node, which becomes its child on the other side.
use Rattle.std.specs.Prelude.{ℕ, suc, Bool, List, [], ◌∷◌, if◌then◌else◌, ◌==◌}
use Rattle.word_layout.specs.declared.stores.Store.{Store}
use Rattle.word_layout.specs.Words.{Nodes, none, fork, root_word}
use Rattle.rb_trees.specs.declared.Record.{Record}
use Rattle.rb_trees.specs.declared.Side.{Side}
use Rattle.rb_trees.specs.Trees.{ColouredTree, tip, branch, shape}
use Rattle.rb_trees.specs.Sides.{opposite, on, sided, set_link}

-- the link that leads to a tree
abbrev pub link : Nodes → ℕ
link none = 0
link (fork l i r) = suc i

-- a link that changed is stored
abbrev pub relink : Side → ℕ → ℕ → ℕ → ℕ → List Store
relink s copy node before after =
    if before == after then [] else set_link s copy node after ∷ []

abbrev pub set_root : ℕ → ℕ → Store
set_root copy value = record { word = root_word copy; value = value }

abbrev pub relink_root : ℕ → ℕ → ℕ → List Store
relink_root copy before after = if before == after then [] else set_root copy after ∷ []

-- how many stores that are
abbrev pub moved : ℕ → ℕ → ℕ
moved before after = if before == after then 0 else 1

-- the child x on the other side takes the place of a node y, which goes down on this side
--
--       y                x
--      / \              / \
--   near  x     ->     y   b
--        / \          / \
--       a   b      near  a
abbrev pub turned_by : Side → Bool → Bool → ColouredTree → ColouredTree → ColouredTree
turned_by s child_red node_red tip other = tip
turned_by s child_red node_red (branch red l y r) tip = branch red l y r
turned_by s child_red node_red (branch red l y r) (branch k a x b) =
    sided s child_red (sided s node_red (on s l r) y (on s a b)) x (on (opposite s) a b)

abbrev pub turned : Side → Bool → Bool → ColouredTree → ColouredTree
turned s child_red node_red tip = tip
turned s child_red node_red (branch red l y r) =
    turned_by s child_red node_red (branch red l y r) (on (opposite s) l r)

-- its stores
abbrev pub turn_links_over : Side → ℕ → Record → ColouredTree → List Store
turn_links_over s copy y tip = []
turn_links_over s copy y (branch k l x r) =
    set_link (opposite s) copy y.node (link (shape (on s l r)))
    ∷ set_link s copy x.node (suc y.node) ∷ []

abbrev pub turn_links : Side → ℕ → ColouredTree → List Store
turn_links s copy tip = []
turn_links s copy (branch red l y r) = turn_links_over s copy y (on (opposite s) l r)
