-- Several changes of both copies, planned one after another.
use Rattle.std.specs.Prelude.{◌≡◌, ℕ, List, [], ◌∷◌, ◌++◌, map, Contains}
use Rattle.std.specs.List.{AllByRecursion}
use Rattle.order_laws.specs.declared.items.Item.{Item}
use Rattle.order_laws.specs.Orders.{Order}
use Rattle.order_laws.specs.Tables.{without_all}
use Rattle.word_layout.specs.declared.stores.Store.{Store}
use Rattle.word_layout.specs.Words.{item_at, listed}
use Rattle.word_layout.specs.Stores.{words_after_all, AreLinkStores}
use Rattle.rb_words.specs.Pictures.{Picture, IsPictured}
use Rattle.rb_words.specs.Plans.{item_stores}
use Rattle.rb_words.specs.Mirrors.{mirror_stores, second_picture}
use Rattle.rb_words.specs.Rows.{AreDistinct}
use Rattle.table_updates.specs.Updates.{with_items}
use Rattle.latch_core.specs.FreeNodes.{AreAllNodes}

-- items, each with the node that it goes into; the stores of their words; and that these are
abbrev pub PlacedItems : Type 0
PlacedItems = List (ℕ × Item)

abbrev pub stores_of_placed : PlacedItems → List Store
stores_of_placed [] = []
stores_of_placed (p ∷ rest) = item_stores p.0 p.1 ++ stores_of_placed rest

abbrev pub AreInPlace : List ℕ → PlacedItems → Type 0
AreInPlace m placed = AllByRecursion (λ p. item_at m p.0 ≡ p.1) placed

-- once the words of new items are stored, these links lead a copy from the old picture to the new
pub record RelinksCopy (old new : Picture) (placed : PlacedItems) (links : List Store)
    : Type 0 where
  pub capacity : new.capacity ≡ old.capacity
  pub copy : new.copy ≡ old.copy
  pub links_only : AreLinkStores old.capacity old.copy links
  pub leads : (m : List ℕ) → IsPictured m old → AreInPlace m placed
      → IsPictured (words_after_all m links) new

-- and, mirrored, the second copy
pub record RelinksBoth (old new : Picture) (placed : PlacedItems) (links : List Store)
    : Type 0 where
  pub zero : RelinksCopy old new placed links
  pub one : RelinksCopy (second_picture old) (second_picture new) placed (mirror_stores links)

-- the items of these first words are erased by these links, and their nodes come after those that
-- were free
pub record ErasesWords (old new : Picture) (erase : List ℕ) (links : List Store)
    (free free' : List ℕ) : Type 0 where
  pub table : new.table ≡ without_all erase old.table
  pub both : RelinksBoth old new [] links
  pub freed : List ℕ
  pub behind : free' ≡ free ++ freed
  pub nodes : AreAllNodes old.capacity (free' ++ listed new.tree)

-- these items are inserted by these links, each in one of the fresh nodes, in which it was placed
-- before
pub record InsertsItems {K : Type 0} (o : Order K) (old new : Picture) (insert : List Item)
    (placed : PlacedItems) (links : List Store) (fresh free' : List ℕ) : Type 0 where
  pub table : new.table ≡ with_items o insert old.table
  pub both : RelinksBoth old new placed links
  pub in_fresh : AllByRecursion (λ p. Contains fresh p.0) placed
  pub in_tree : AllByRecursion (λ p. Contains (listed new.tree) p.0) placed
  pub distinct : AreDistinct (map (λ p. p.0) placed)
  pub nodes : AreAllNodes old.capacity (free' ++ listed new.tree)
