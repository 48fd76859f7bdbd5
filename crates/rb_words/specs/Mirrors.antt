-- The second copy beside the first: its tree, in the words of copy 1.
use Rattle.std.specs.Prelude.{◌≡◌, ℕ, ◌+◌, ◌==◌, if◌then◌else◌, List, map}
use Rattle.order_laws.specs.declared.items.Item.{Item}
use Rattle.order_laws.specs.Orders.{Order}
use Rattle.word_layout.specs.declared.stores.Store.{Store}
use Rattle.word_layout.specs.Words.{root_word}
use Rattle.rb_words.specs.Pictures.{Picture}
use Rattle.rb_words.specs.Plans.{Inserts, LeadsWithItem, Erases, LeadsByLinks}

-- the word of copy 1 for the root or a link of copy 0: a node's links in copy 1 lie two words
-- beyond those in copy 0
abbrev pub mirror_word : ℕ → ℕ
mirror_word w = if w == root_word 0 then root_word 1 else w + 2

-- the store of its value in copy 1
abbrev pub mirror_store : Store → Store
mirror_store s = record { word = mirror_word s.word; value = s.value }

-- the stores in copy 1 for some in copy 0
abbrev pub mirror_stores : List Store → List Store
mirror_stores links = map mirror_store links

-- a picture as one of copy 1
abbrev pub second_picture : Picture → Picture
second_picture p = record p { copy = 1 }

-- the insert goes on in the second picture too
abbrev pub AreInsertsMirrored : {K : Type 0} → Order K → Picture → Picture → Type 0
AreInsertsMirrored o old new = (node : ℕ) (item : Item) →
    Inserts o old new node item → Inserts o (second_picture old) (second_picture new) node item

-- and its plan, mirrored, leads copy 1
abbrev pub ArePlansWithItemMirrored : {K : Type 0} → Order K → Picture → Picture → Type 0
ArePlansWithItemMirrored o old new = (node : ℕ) (item : Item) (links : List Store) →
    old.copy ≡ 0 → Inserts o old new node item → LeadsWithItem old new node item links →
    LeadsWithItem (second_picture old) (second_picture new) node item (mirror_stores links)

-- the erase goes on in the second picture too
abbrev pub AreErasesMirrored : Picture → Picture → Type 0
AreErasesMirrored old new = (a node : ℕ) →
    old.copy ≡ 0 → Erases old new a node → Erases (second_picture old) (second_picture new) a node

-- and its plan, mirrored, leads copy 1
abbrev pub ArePlansByLinksMirrored : Picture → Picture → Type 0
ArePlansByLinksMirrored old new = (a node : ℕ) (links : List Store) →
    old.copy ≡ 0 → Erases old new a node → LeadsByLinks old new links →
    LeadsByLinks (second_picture old) (second_picture new) (mirror_stores links)
