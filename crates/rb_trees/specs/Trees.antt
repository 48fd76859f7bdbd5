-- Trees of red and black nodes, each with its record.
use Rattle.std.specs.Prelude.{◌≡◌, ℕ, zero, suc, Bool, true, false, List, [], ◌∷◌, ◌++◌, max}
use Rattle.word_layout.specs.Words.{Nodes, none, fork}
use Rattle.rb_trees.specs.declared.Record.{Record}

-- whether the node is red, its left subtree, its record, its right subtree
pub data ColouredTree : Type 0 where
  tip : ColouredTree
  branch : Bool → ColouredTree → Record → ColouredTree → ColouredTree

abbrev pub is_red : ColouredTree → Bool
is_red tip = false
is_red (branch red l x r) = red

-- its top in this colour
abbrev pub coloured : Bool → ColouredTree → ColouredTree
coloured red tip = tip
coloured red (branch was l x r) = branch red l x r

abbrev pub blackened : ColouredTree → ColouredTree
blackened t = coloured false t

-- the nodes without colours and items
abbrev pub shape : ColouredTree → Nodes
shape tip = none
shape (branch red l x r) = fork (shape l) x.node (shape r)

-- the records from left to right
abbrev pub rows : ColouredTree → List Record
rows tip = []
rows (branch red l x r) = rows l ++ x ∷ rows r

-- every way down has h black nodes
abbrev pub HasBlackHeight : ColouredTree → ℕ → Type 0
HasBlackHeight tip h = h ≡ 0
HasBlackHeight (branch true l x r) h = HasBlackHeight l h × HasBlackHeight r h
HasBlackHeight (branch false l x r) zero = ⊥
HasBlackHeight (branch false l x r) (suc h) = HasBlackHeight l h × HasBlackHeight r h

-- no red node has a red child
abbrev pub HasNoClash : ColouredTree → Type 0
HasNoClash tip = Unit {0}
HasNoClash (branch true l x r) =
    (is_red l ≡ false) × (is_red r ≡ false) × HasNoClash l × HasNoClash r
HasNoClash (branch false l x r) = HasNoClash l × HasNoClash r

pub record IsRedBlack (t : ColouredTree) : Type 0 where
  pub black : is_red t ≡ false
  pub calm : HasNoClash t
  pub even : (h : ℕ) × HasBlackHeight t h

-- a tree of nodes that can be coloured so; above rb_words nothing looks inside
abbrev pub IsBalanced : Nodes → Type 0
IsBalanced tree = (t : ColouredTree) × IsRedBlack t × (shape t ≡ tree)

-- the most nodes on a way down
abbrev pub depth : Nodes → ℕ
depth none = 0
depth (fork l i r) = suc (max (depth l) (depth r))
