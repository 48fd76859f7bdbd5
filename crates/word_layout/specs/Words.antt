-- A memory is a list of words: the sequence, the roots of two copies of a tree, and seven words for
-- each node.
use Rattle.std.specs.Prelude.{◌≡◌, ℕ, suc, ◌+◌, ◌*◌, ◌<◌, ◌⊎◌, List, [], ◌∷◌, ◌++◌, slice_index}
use Rattle.order_laws.specs.declared.items.Item.{Item}

-- how many words a node has
abbrev pub words_per_node : ℕ
words_per_node = 7

-- the number of each word; copy is 0 or 1
abbrev pub root_word : ℕ → ℕ
root_word copy = 1 + copy

abbrev pub a_word : ℕ → ℕ
a_word i = 3 + words_per_node * i

abbrev pub b_word : ℕ → ℕ
b_word i = 4 + words_per_node * i

abbrev pub tag_word : ℕ → ℕ
tag_word i = 5 + words_per_node * i

abbrev pub left_word : ℕ → ℕ → ℕ
left_word copy i = 6 + words_per_node * i + 2 * copy

abbrev pub right_word : ℕ → ℕ → ℕ
right_word copy i = 7 + words_per_node * i + 2 * copy

-- the seven words of a node by their place: a, b, tag, left and right link in copy 0, left and
-- right link in copy 1
abbrev pub word_of_node : ℕ → ℕ → ℕ
word_of_node place i = 3 + place + words_per_node * i

-- how many words a memory has for n nodes
abbrev pub words_for : ℕ → ℕ
words_for n = words_per_node * n + 3

-- what a word holds
abbrev pub at : List ℕ → ℕ → ℕ
at m w = slice_index m w

-- the item whose words a node has
abbrev pub item_at : List ℕ → ℕ → Item
item_at m i = record { a = at m (a_word i); b = at m (b_word i); tag = at m (tag_word i) }

-- a binary tree of node numbers
pub data Nodes : Type 0 where
  none : Nodes
  fork : Nodes → ℕ → Nodes → Nodes

-- the node numbers from left to right
abbrev pub listed : Nodes → List ℕ
listed none = []
listed (fork l i r) = listed l ++ i ∷ listed r

-- the items from left to right
abbrev pub items : List ℕ → Nodes → List Item
items m none = []
items m (fork l i r) = items m l ++ item_at m i ∷ items m r

-- a link leads to this tree, in one copy of a memory with n nodes: 0 is no node, i + 1 is node i
abbrev pub Leads : List ℕ → ℕ → ℕ → ℕ → Nodes → Type 0
Leads m n copy link none = link ≡ 0
Leads m n copy link (fork l i r) =
    (link ≡ suc i) × (i < n)
    × Leads m n copy (at m (left_word copy i)) l × Leads m n copy (at m (right_word copy i)) r

-- one copy holds a table, in this tree
pub record Holds (m : List ℕ) (n copy : ℕ) (table : List Item) (tree : Nodes) : Type 0 where
  pub leads : Leads m n copy (at m (root_word copy)) tree
  pub listed_items : items m tree ≡ table

-- a walk in one copy may come to this node
pub data Reaches (m : List ℕ) (n copy : ℕ) : ℕ → Type 0 where
  by_root : (i : ℕ) → i < n → at m (root_word copy) ≡ suc i → Reaches m n copy i
  by_left : (i j : ℕ) → Reaches m n copy i → j < n → at m (left_word copy i) ≡ suc j →
      Reaches m n copy j
  by_right : (i j : ℕ) → Reaches m n copy i → j < n → at m (right_word copy i) ≡ suc j →
      Reaches m n copy j

-- a word of this node that readers of this copy load
abbrev pub IsWordOf : ℕ → ℕ → ℕ → Type 0
IsWordOf copy i w = (w ≡ a_word i) ⊎ (w ≡ b_word i) ⊎ (w ≡ tag_word i)
    ⊎ (w ≡ left_word copy i) ⊎ (w ≡ right_word copy i)

-- a word that readers of this copy may load: its root, or a word of a node that it reaches
abbrev pub InUse : List ℕ → ℕ → ℕ → ℕ → Type 0
InUse m n copy w = (w ≡ root_word copy) ⊎ ((i : ℕ) × Reaches m n copy i × IsWordOf copy i w)

-- one copy holds a table, in some tree
abbrev pub HoldsTable : List ℕ → ℕ → ℕ → List Item → Type 0
HoldsTable m n copy table = (t : Nodes) × Holds m n copy table t

-- neither copy reaches this node
abbrev pub IsUnreached : List ℕ → ℕ → ℕ → Type 0
IsUnreached m n i = (Reaches m n 0 i → ⊥) × (Reaches m n 1 i → ⊥)
