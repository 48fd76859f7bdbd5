-- What a writer's core and its list of stores show.
use Rattle.std.specs.Prelude.{ℕ, List, drop, refl}
use Rattle.std.specs.Coded.{Coded, code_by, coded×, coded_ℕ, coded_list}
use Rattle.order_laws.specs.declared.items.Item.{Item}
use Rattle.order_laws.specs.Items.{item_code}
use Rattle.word_layout.specs.declared.stores.Store.{Store}
use Rattle.word_layout.specs.Words.{Nodes}
use Rattle.word_layout.specs.NodesCode.{nodes_code}

-- the stores that are still to be made, and how many more can be planned without memory
pub record PlanView : Type 0 where
  pub stores_left : List Store
  pub room : ℕ

-- a store and a view are stored as the tuples of their fields
abbrev pub store_code : Coded Store
store_code =
    code_by (ℕ × ℕ) (coded× coded_ℕ coded_ℕ)
    (λ s. (s.word, s.value))
    (λ p. record { word = p.0; value = p.1 })
    (λ _. refl)

abbrev pub plan_code : Coded PlanView
plan_code =
    code_by (List Store × ℕ) (coded× (coded_list store_code) coded_ℕ)
    (λ p. (p.stores_left, p.room))
    (λ p. record { stores_left = p.0; room = p.1 })
    (λ _. refl)

-- the first `made` stores of an update were made, and a list has this room after them
abbrev pub plan_view : List Store → ℕ → ℕ → PlanView
plan_view stores made room = record { stores_left = drop made stores; room = room }

-- the number of nodes and the greatest sequence; the sequence; the table after all accepted
-- updates, and the trees that copy 0 and copy 1 have when the pending update is at its end; the
-- stores that are left until then
pub record WriterView : Type 0 where
  pub capacity : ℕ
  pub limit : ℕ
  pub sequence : ℕ
  pub table : List Item
  pub zero_tree : Nodes
  pub one_tree : Nodes
  pub stores_left : List Store

-- a view is stored as the tuple of its fields
abbrev pub writer_code : Coded WriterView
writer_code =
    code_by (ℕ × (ℕ × (ℕ × (List Item × (Nodes × (Nodes × List Store))))))
    (coded× coded_ℕ (coded× coded_ℕ (coded× coded_ℕ (coded× (coded_list item_code)
    (coded× nodes_code (coded× nodes_code (coded_list store_code)))))))
    (λ w. (
      w.capacity,
      (w.limit, (w.sequence, (w.table, (w.zero_tree, (w.one_tree, w.stores_left))))),
    ))
    (λ t. record {
      capacity = t.0;
      limit = t.1.0;
      sequence = t.1.1.0;
      table = t.1.1.1.0;
      zero_tree = t.1.1.1.1.0;
      one_tree = t.1.1.1.1.1.0;
      stores_left = t.1.1.1.1.1.1;
    })
    (λ _. refl)
