-- The links of a tree in a memory, and stores that lead from one tree to another.
use Rattle.std.specs.Prelude.{◌≡◌, ℕ, ◌<◌, ◌≤◌, ◌⊎◌, List, length}
use Rattle.std.specs.List.{AllByRecursion}
use Rattle.word_layout.specs.declared.stores.Store.{Store}
use Rattle.word_layout.specs.Words.{Nodes, none, fork, at, root_word, left_word, right_word}
use Rattle.word_layout.specs.Words.{words_for, Leads}
use Rattle.word_layout.specs.Stores.{words_after_all, AreLinkStores}
use Rattle.rb_trees.specs.Turns.{link}

-- the words of a tree's nodes have the links inside the tree
abbrev pub Inner : List ℕ → ℕ → Nodes → Type 0
Inner m copy none = Unit {0}
Inner m copy (fork l i r) =
    (at m (left_word copy i) ≡ link l) × (at m (right_word copy i) ≡ link r)
    × Inner m copy l × Inner m copy r

-- the node is one of the tree
abbrev pub Among : Nodes → ℕ → Type 0
Among none i = ⊥
Among (fork l j r) i = (i ≡ j) ⊎ Among l i ⊎ Among r i

-- no node is in the tree twice
abbrev pub IsSeparate : Nodes → Type 0
IsSeparate none = Unit {0}
IsSeparate (fork l i r) =
    (Among l i → ⊥) × (Among r i → ⊥) × ((j : ℕ) → Among l j → Among r j → ⊥)
    × IsSeparate l × IsSeparate r

-- the node is one of the tree, or of some others
abbrev pub With : (ℕ → Type 0) → Nodes → ℕ → Type 0
With others t i = others i ⊎ Among t i

-- a memory of n nodes has the nodes of the tree, none twice, and some others beside them
pub record HasRoom (n : ℕ) (others : ℕ → Type 0) (t : Nodes) : Type 0 where
  pub below : (i : ℕ) → With others t i → i < n
  pub free : (i : ℕ) → others i → Among t i → ⊥
  pub separate : IsSeparate t

-- stores of one copy's root and links, each of 0 or of a link to a node, that lead each memory
-- whose copy is led to the one tree to the other
pub record LeadLinks (n copy : ℕ) (t u : Nodes) (links : List Store) : Type 0 where
  pub words : AreLinkStores n copy links
  pub values : AllByRecursion (λ s. s.value ≤ n) links
  pub leads : (m : List ℕ) → length m ≡ words_for n →
      Leads m n copy (at m (root_word copy)) t →
      Leads (words_after_all m links) n copy (at (words_after_all m links) (root_word copy)) u

-- these stores do, in each memory that has room for the tree and the other nodes
abbrev pub Lead : (ℕ → Type 0) → ℕ → Nodes → Nodes → List Store → Type 0
Lead others copy t u links =
    (n : ℕ) → copy ≤ 1 → HasRoom n others t → LeadLinks n copy t u links
