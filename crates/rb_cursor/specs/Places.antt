-- What the fields of a cursor are, and what they show.
use Rattle.std.specs.Prelude.{◌≡◌, ℕ, zero, suc, ◌+◌, ◌^◌, ◌<◌, ◌≤◌, List, [], ◌∷◌, length, false}
use Rattle.std.specs.Prelude.{Option, Some, None}
use Rattle.slab.specs.Slab.{Slab, get, slab_len}
use Rattle.rb_cursor.specs.declared.nodes.Node.{Node}
use Rattle.rb_trees.specs.declared.Side.{Side}
use Rattle.rb_trees.specs.declared.Side.TheVariants.{Left, Right}
use Rattle.rb_cursor.specs.declared.nodes.Step.{Step}
use Rattle.rb_trees.specs.Paths.{Above}
use Rattle.rb_cursor.specs.Zippers.{Zipper}
use Rattle.rb_cursor.specs.Keyed.{Keyed, Level, link_of, link_to, size, path_size, record_of}
use Rattle.rb_cursor.specs.Keyed.{uses, path_uses, list_uses, IsLinked, IsPath, IsChain, tree_from}
use Rattle.rb_cursor.specs.Writes.{key_of, step_at}

-- each node is in one place: in the tree in hand, on the path or among the blank ones
pub record IsPlace (s : Slab Node) (hand : Keyed) (path : List Level) (blanks : List ℕ) :
    Type 0 where
  pub hand_linked : IsLinked s hand
  pub path_linked : IsPath s (link_of hand) path
  pub chained : IsChain s blanks
  pub apart : (i : ℕ) → uses i hand + (path_uses i path + list_uses i blanks) ≤ 1
  pub counted : size hand + (path_size path + length blanks) ≡ slab_len s
  pub fits : slab_len s ≤ s.capacity
  pub small : slab_len s < 2 ^ 32

-- the steps of a path, the nearest last
abbrev pub AreSteps : List Step → ℕ → List Level → Type 0
AreSteps steps depth [] = depth ≡ 0
AreSteps steps depth (a ∷ path) =
    (depth ≡ suc (length path))
    × (step_at steps (length path) ≡ record { link = suc a.key; side = a.side })
    × AreSteps steps (length path) path

-- the fields of a cursor, with the trees at their keys
pub record AreFields (s : Slab Node) (tree : ℕ) (steps : List Step) (depth blank room : ℕ)
    (hand : Keyed) (path : List Level) (blanks : List ℕ) : Type 0 where
  pub place : IsPlace s hand path blanks
  pub tree_link : tree ≡ link_of hand
  pub path_steps : AreSteps steps depth path
  pub blank_link : blank ≡ link_to blanks
  pub room_is : room ≡ length blanks
  pub few : depth ≤ 64

-- the fields of a cursor
pub record IsCursor (s : Slab Node) (tree : ℕ) (steps : List Step) (depth blank room : ℕ) :
    Type 0 where
  pub hand : Keyed
  pub path : List Level
  pub blanks : List ℕ
  pub fields : AreFields s tree steps depth blank room hand path blanks
  pub open fields use *

-- the node above that a step names
abbrev pub above_with : Slab Node → ℕ → Side → Node → Above
above_with s fuel Left n =
    record { side = Left; red = n.red; row = record_of n; other = tree_from s fuel n.right }
above_with s fuel Right n =
    record { side = Right; red = n.red; row = record_of n; other = tree_from s fuel n.left }

abbrev pub no_node : Node
no_node =
    record { item = record { a = 0; b = 0; tag = 0 }; node = 0; left = 0; right = 0; red = false }

abbrev pub node_or : Option Node → Node
node_or None = no_node
node_or (Some n) = n

abbrev pub above_at : Slab Node → ℕ → Step → Above
above_at s fuel step = above_with s fuel step.side (node_or (get s (key_of step.link)))

-- the path that the first `depth` steps are, the last of them first
abbrev pub path_from : Slab Node → ℕ → List Step → ℕ → List Above
path_from s fuel steps zero = []
path_from s fuel steps (suc depth) =
    above_at s fuel (step_at steps depth) ∷ path_from s fuel steps depth

-- what the fields show
unfoldable pub shown : Slab Node → ℕ → List Step → ℕ → ℕ → Zipper
shown s tree steps depth room =
    record {
      tree = tree_from s s.capacity tree;
      path = path_from s s.capacity steps depth;
      room = room;
    }
