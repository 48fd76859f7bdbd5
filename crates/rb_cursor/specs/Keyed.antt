-- Trees, a path and blank nodes in a slab.
use Rattle.std.specs.Prelude.{◌≡◌, ℕ, zero, suc, ◌+◌, ◌==◌, Bool, List, [], ◌∷◌, Option, Some, None}
use Rattle.std.specs.Prelude.{if◌then◌else◌}
use Rattle.slab.specs.Slab.{Slab, get}
use Rattle.rb_trees.specs.declared.Record.{Record}
use Rattle.rb_trees.specs.Trees.{ColouredTree, tip, branch}
use Rattle.rb_cursor.specs.declared.nodes.Node.{Node}
use Rattle.rb_trees.specs.declared.Side.{Side}
use Rattle.rb_trees.specs.declared.Side.TheVariants.{Left, Right}
use Rattle.rb_trees.specs.Paths.{Above}

-- a tree with the key of each of its nodes
pub data Keyed : Type 0 where
  nil : Keyed
  keyed : Bool → Keyed → ℕ → Record → Keyed → Keyed

-- a node above, with its key
pub record Level : Type 0 where
  pub side : Side
  pub red : Bool
  pub key : ℕ
  pub row : Record
  pub other : Keyed

-- the link that leads to a tree: 0, or one more than the key of its top
abbrev pub link_of : Keyed → ℕ
link_of nil = 0
link_of (keyed red l k x r) = suc k

-- the link that leads to the first key
abbrev pub link_to : List ℕ → ℕ
link_to [] = 0
link_to (k ∷ ks) = suc k

-- without the keys
abbrev pub plain : Keyed → ColouredTree
plain nil = tip
plain (keyed red l k x r) = branch red (plain l) x (plain r)

abbrev pub plain_level : Level → Above
plain_level a = record { side = a.side; red = a.red; row = a.row; other = plain a.other }

abbrev pub plain_path : List Level → List Above
plain_path [] = []
plain_path (a ∷ path) = plain_level a ∷ plain_path path

-- how many nodes there are
abbrev pub size : Keyed → ℕ
size nil = 0
size (keyed red l k x r) = suc (size l + size r)

abbrev pub path_size : List Level → ℕ
path_size [] = 0
path_size (a ∷ path) = suc (size a.other + path_size path)

-- how often a key is there
abbrev pub at_key : ℕ → ℕ → ℕ
at_key i k = if i == k then 1 else 0

abbrev pub uses : ℕ → Keyed → ℕ
uses i nil = 0
uses i (keyed red l k x r) = at_key i k + (uses i l + uses i r)

abbrev pub path_uses : ℕ → List Level → ℕ
path_uses i [] = 0
path_uses i (a ∷ path) = at_key i a.key + (uses i a.other + path_uses i path)

abbrev pub list_uses : ℕ → List ℕ → ℕ
list_uses i [] = 0
list_uses i (k ∷ ks) = at_key i k + list_uses i ks

-- the node of a record with its two links
abbrev pub node_with : Bool → Record → ℕ → ℕ → Node
node_with red x left right =
    record { item = x.item; node = x.node; left = left; right = right; red = red }

-- the node of a tree's top
abbrev pub node_of : Bool → Keyed → Record → Keyed → Node
node_of red l x r = node_with red x (link_of l) (link_of r)

-- the slab has the nodes of a tree at their keys
abbrev pub IsLinked : Slab Node → Keyed → Type 0
IsLinked s nil = Unit {0}
IsLinked s (keyed red l k x r) =
    (get s k ≡ Some (node_of red l x r)) × IsLinked s l × IsLinked s r

-- the node with this link on this side, and this one on the other
abbrev pub sided_node : Side → Bool → Record → ℕ → ℕ → Node
sided_node Left red x link other = node_with red x link other
sided_node Right red x link other = node_with red x other link

-- the slab has the nodes of a path at their keys: the nearest leads by this link, and each of the
-- others to the next nearer one
abbrev pub IsPath : Slab Node → ℕ → List Level → Type 0
IsPath s link [] = Unit {0}
IsPath s link (a ∷ path) =
    (get s a.key ≡ Some (sided_node a.side a.red a.row link (link_of a.other)))
    × IsLinked s a.other × IsPath s (suc a.key) path

-- the slab has blank nodes at these keys, each leading to the next by its left link
abbrev pub IsChain : Slab Node → List ℕ → Type 0
IsChain s [] = Unit {0}
IsChain s (k ∷ ks) = ((n : Node) × (get s k ≡ Some n) × (n.left ≡ link_to ks)) × IsChain s ks

-- the record of a node
abbrev pub record_of : Node → Record
record_of n = record { node = n.node; item = n.item }

-- the tree that a link leads to, to this depth
abbrev pub tree_below : (ℕ → ColouredTree) → Option Node → ColouredTree
tree_below down None = tip
tree_below down (Some n) = branch n.red (down n.left) (record_of n) (down n.right)

abbrev pub tree_from : Slab Node → ℕ → ℕ → ColouredTree
tree_from s zero link = tip
tree_from s (suc fuel) zero = tip
tree_from s (suc fuel) (suc k) = tree_below (tree_from s fuel) (get s k)
