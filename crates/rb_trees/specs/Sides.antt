-- The two sides of a node: what is on each, so that a case is written once for both.
use Rattle.std.specs.Prelude.{ℕ, Bool}
use Rattle.word_layout.specs.declared.stores.Store.{Store}
use Rattle.word_layout.specs.Words.{left_word, right_word}
use Rattle.rb_trees.specs.declared.Record.{Record}
use Rattle.rb_trees.specs.declared.Side.{Side}
use Rattle.rb_trees.specs.declared.Side.TheVariants.{Left, Right}
use Rattle.rb_trees.specs.Trees.{ColouredTree, branch}

abbrev pub opposite : Side → Side
opposite Left = Right
opposite Right = Left

-- of a left and a right thing the one on this side
abbrev pub on : {X : Type 0} → Side → X → X → X
on Left l r = l
on Right l r = r

-- a node of this colour with a tree on this side and another on the other side
abbrev pub sided : Side → Bool → ColouredTree → Record → ColouredTree → ColouredTree
sided Left red near x far = branch red near x far
sided Right red near x far = branch red far x near

-- the word of a node's link on this side, and a store of it
abbrev pub link_word : Side → ℕ → ℕ → ℕ
link_word Left copy node = left_word copy node
link_word Right copy node = right_word copy node

abbrev pub set_link : Side → ℕ → ℕ → ℕ → Store
set_link s copy node value = record { word = link_word s copy node; value = value }
