-- Several items at once: what the tests of a batch say, and the table after it.
use Rattle.table_updates.proofs.Words.{◌≡◌, ◌+◌, true, false, List, [], ◌∷◌, length, ◌∙◌, arith}
use Rattle.table_updates.proofs.Words.{not, not-false, or_parts, Item, Order, IsLawful, IsTable}
use Rattle.table_updates.proofs.Words.{with_item, meets, not_meeting, with_items, some_invalid}
use Rattle.table_updates.proofs.Words.{some_overlap, some_meet}
use Rattle.std.specs.List.{AllByRecursion}
use Rattle.order_laws.proofs.TableLemmas.{with_item_table, length_with_item, all_with_item}
use Rattle.facts.proofs.Each.{all_weaker}
use Rattle.facts.proofs.Tests.{all_fail}

-- items that are all valid, apart from each other, and apart from those of a table
abbrev pub AreApart : {K : Type 0} → Order K → List Item → Type 0
AreApart o [] = Unit {0}
AreApart o (i ∷ rest) = AllByRecursion (λ x. o.apart x i ≡ true) rest × AreApart o rest

abbrev pub AreOff : {K : Type 0} → Order K → List Item → List Item → Type 0
AreOff o items table = AllByRecursion (λ i. AllByRecursion (λ x. o.apart x i ≡ true) table) items

pub all_valid : {K : Type 0} (o : Order K) (items : List Item) → some_invalid o items ≡ false
    → AllByRecursion (λ i. o.valid i ≡ true) items
all_valid o items e =
    all_weaker (λ i. not (o.valid i) ≡ false) (λ i. o.valid i ≡ true)
    (λ i f. not-false (o.valid i) f) items
    (all_fail (λ i. not (o.valid i)) items e)

pub all_apart : {K : Type 0} (o : Order K) (items : List Item) → some_overlap o items ≡ false
    → AreApart o items
all_apart o [] e = tt
all_apart o (i ∷ rest) e =
    let both = or_parts (meets o i rest) (some_overlap o rest) e in
    (not_meeting o i rest both.0, all_apart o rest both.1)

pub all_off : {K : Type 0} (o : Order K) (items table : List Item) → some_meet o items table ≡ false
    → AreOff o items table
all_off o items table e =
    all_weaker (λ i. meets o i table ≡ false) (λ i. AllByRecursion (λ x. o.apart x i ≡ true) table)
    (λ i f. not_meeting o i table f) items
    (all_fail (λ i. meets o i table) items e)

pub length_with_items : {K : Type 0} (o : Order K) (items table : List Item)
    → length (with_items o items table) ≡ length items + length table
length_with_items o [] table = omega arith
length_with_items o (i ∷ rest) table =
    omega (arith, length_with_items o rest (with_item o i table), length_with_item o i table)

module _ {K : Type 0} (o : Order K) (law : IsLawful o) where
  -- what is off a table, and apart from one item more, is off the table with that item
  pub still_off : (i : Item) (rest table : List Item)
      → AllByRecursion (λ x. o.apart x i ≡ true) rest → AreOff o rest table
      → AreOff o rest (with_item o i table)
  still_off i [] table a h = tt
  still_off i (r ∷ rest) table a h = (
    all_with_item o (λ x. o.apart x r ≡ true) i table (law.symmetric i r ∙ a.0) h.0,
    still_off i rest table a.1 h.1,
  )

  pub with_items_table : (items table : List Item) → AllByRecursion (λ i. o.valid i ≡ true) items
      → AreApart o items → AreOff o items table → IsTable o table
      → IsTable o (with_items o items table)
  with_items_table [] table v a h t = t
  with_items_table (i ∷ rest) table v a h t =
      with_items_table rest (with_item o i table) v.1 a.1 (still_off i rest table a.0 h.1)
      (with_item_table o law i table v.0 h.0 t)
