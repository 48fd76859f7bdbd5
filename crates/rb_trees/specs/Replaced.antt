-- A tree in the place of another, on the way up of an insert or an erase.
use Rattle.std.specs.Prelude.{◌≡◌, ℕ, zero, suc, ◌≤◌, ◌⊎◌, Bool, true, false, List, [], ◌∷◌}
use Rattle.std.specs.Prelude.{length}
use Rattle.word_layout.specs.declared.stores.Store.{Store}
use Rattle.word_layout.specs.Words.{Nodes, words_for}
use Rattle.word_layout.specs.Stores.{words_after_all}
use Rattle.word_layout.proofs.OwnedLinkLemmas.{Owns}
use Rattle.rb_trees.specs.declared.Record.{Record}
use Rattle.rb_trees.specs.Trees.{ColouredTree, is_red, shape, rows, HasBlackHeight, HasNoClash}
use Rattle.rb_trees.specs.Linked.{Inner, Among, IsSeparate, With, HasRoom}
use Rattle.rb_trees.specs.Paths.{Above, plugged}

-- the stores of links of these nodes make the one tree the other
pub record Relinks (n c : ℕ) (P : ℕ → Type 0) (t u : Nodes) (ss : List Store) : Type 0 where
  pub within : (i : ℕ) → Among u i → P i
  pub separate : IsSeparate u
  pub owns : Owns n c P ss
  pub leads : (m : List ℕ) → length m ≡ words_for n → Inner m c t →
      Inner (words_after_all m ss) c u

-- the nodes of a tree and some others, without those that are gone from it
abbrev pub Own : (ℕ → Type 0) → (ℕ → Type 0) → Nodes → ℕ → Type 0
Own others gone t i = With others t i × (gone i → ⊥)

-- of the whole old tree these records are to be left, and some nodes are gone
module _ (c : ℕ) (others gone : ℕ → Type 0) (whole : ColouredTree) (rs : List Record) where
  -- at the end of this path a new tree takes the place of an old one, a part of the whole: the
  -- records are these then, and the stores make the old tree the new one
  pub record Replaced (path : List Above) (was t : ColouredTree) (ss : List Store) : Type 0 where
    pub old : plugged path was ≡ whole
    pub in_order : rows (plugged path t) ≡ rs
    pub gone_here : (i : ℕ) → gone i → Among (shape was) i
    pub links : (n : ℕ) → c ≤ 1 → HasRoom n others (shape was) →
        Relinks n c (Own others gone (shape was)) (shape was) (shape t) ss

-- a sound tree of this height
pub record Sound (t : ColouredTree) (h : ℕ) : Type 0 where
  pub calm : HasNoClash t
  pub high : HasBlackHeight t h

-- what may take the place of a sound tree of this colour and height: a tree that is not short, or
-- one that is
abbrev pub Fits : Bool → ℕ → ColouredTree → Bool → Type 0
Fits red h t false = Sound t h × (red ≡ false → is_red t ≡ false)
Fits red zero t true = ⊥
Fits red (suc h) t true = Sound t h × (red ≡ false) × (is_red t ≡ false)

-- no node, or some
abbrev pub Nothing : ℕ → Type 0
Nothing i = ⊥

abbrev pub In : List ℕ → ℕ → Type 0
In [] i = ⊥
In (j ∷ js) i = (i ≡ j) ⊎ In js i

-- so it is in an erase
module _ (c : ℕ) (gone : List ℕ) (whole : ColouredTree) (rs : List Record) where
  pub record Lost (path : List Above) (was t : ColouredTree) (ss : List Store) (short : Bool) :
      Type 0 where
    pub replaced : Replaced c Nothing (In gone) whole rs path was t ss
    pub fits : (h : ℕ) → Sound was h → Fits (is_red was) h t short
