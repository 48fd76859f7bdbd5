-- What a shape shows: one copy, as its writer pictures it.
use Rattle.std.specs.Prelude.{◌≡◌, ℕ, ◌<◌, ◌≤◌, List, [], length, refl}
use Rattle.std.specs.List.{AllByRecursion}
use Rattle.std.specs.Coded.{Coded, code_by, coded×, coded_ℕ, coded_list}
use Rattle.order_laws.specs.declared.items.Item.{Item}
use Rattle.order_laws.specs.Items.{item_code}
use Rattle.order_laws.specs.Orders.{Order}
use Rattle.order_laws.specs.Tables.{IsTable}
use Rattle.word_layout.specs.Words.{Nodes, none, listed, Holds, words_for}
use Rattle.word_layout.specs.NodesCode.{nodes_code}
use Rattle.rb_trees.specs.Trees.{IsBalanced}
use Rattle.rb_words.specs.Rows.{AreDistinct}

-- how many nodes there are, which copy it is, what it holds and in which tree; and how many items
-- more fit without memory
pub record Picture : Type 0 where
  pub capacity : ℕ
  pub copy : ℕ
  pub table : List Item
  pub tree : Nodes
  pub room : ℕ

-- an empty copy
abbrev pub empty_picture : ℕ → ℕ → Picture
empty_picture n copy = record { capacity = n; copy = copy; table = []; tree = none; room = 0 }

-- a picture is stored as the tuple of its fields
abbrev pub picture_code : Coded Picture
picture_code =
    code_by (ℕ × (ℕ × (List Item × (Nodes × ℕ))))
    (coded× coded_ℕ (coded× coded_ℕ (coded× (coded_list item_code) (coded× nodes_code coded_ℕ))))
    (λ p. (p.capacity, (p.copy, (p.table, (p.tree, p.room)))))
    (λ t. record {
      capacity = t.0;
      copy = t.1.0;
      table = t.1.1.0;
      tree = t.1.1.1.0;
      room = t.1.1.1.1;
    })
    (λ _. refl)

-- what is pictured can be: a table, in a red-black tree of as many nodes, each of the memory and
-- none twice
pub record IsPicture {K : Type 0} (o : Order K) (p : Picture) : Type 0 where
  pub one_copy : p.copy ≤ 1
  pub is_table : IsTable o p.table
  pub below : AllByRecursion (λ i. i < p.capacity) (listed p.tree)
  pub distinct : AreDistinct (listed p.tree)
  pub as_many : length (listed p.tree) ≡ length p.table
  pub fits : length p.table ≤ p.capacity
  pub balanced : IsBalanced p.tree

-- a memory whose copy holds what is pictured
pub record IsPictured (m : List ℕ) (p : Picture) : Type 0 where
  pub sized : length m ≡ words_for p.capacity
  pub holds : Holds m p.capacity p.copy p.table p.tree
