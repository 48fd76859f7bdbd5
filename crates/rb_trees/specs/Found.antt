-- Searches in a tree.
use Rattle.std.specs.Prelude.{ℕ, Bool, false, not, ◌||◌, ◌&&◌, List, if◌then◌else◌, ◌==◌, map}
use Rattle.std.specs.Prelude.{Option, Some, None}
use Rattle.std.specs.List.{list_any}
use Rattle.order_laws.specs.declared.items.Item.{Item}
use Rattle.order_laws.specs.Orders.{Order}
use Rattle.rb_trees.specs.declared.Record.{Record}
use Rattle.rb_trees.specs.Trees.{ColouredTree, tip, branch}

-- the items of some records
abbrev pub items_of_records : List Record → List Item
items_of_records rs = map (λ r. r.item) rs

-- the first of two answers
abbrev pub first_item_of : Option Item → Option Item → Option Item
first_item_of (Some x) other = Some x
first_item_of None other = other

-- an item of this first word, found by going through all
abbrev pub item_with_word : ℕ → ColouredTree → Option Item
item_with_word a tip = None
item_with_word a (branch red l y r) =
    if y.item.a == a then Some y.item else first_item_of (item_with_word a l) (item_with_word a r)

-- whether some item of the tree, those with these first words left out, is not apart from this one,
-- found by going through all
abbrev pub meets_anywhere : {K : Type 0} → Order K → Item → List ℕ → ColouredTree → Bool
meets_anywhere o i but tip = false
meets_anywhere o i but (branch red l y r) =
    (not (list_any (λ a. a == y.item.a) but) && not (o.apart y.item i))
    || (meets_anywhere o i but l || meets_anywhere o i but r)

-- whether some item of the tree, those with these first words left out, is not apart from this one:
-- beyond an item that is apart from it there is none
abbrev pub meets_on_the_way : {K : Type 0} → Order K → Item → List ℕ → ColouredTree → Bool
meets_on_the_way o i but tip = false
meets_on_the_way o i but (branch red l y r) =
    if o.apart y.item i
    then (if o.less i y.item then meets_on_the_way o i but l else meets_on_the_way o i but r)
    else not (list_any (λ a. a == y.item.a) but)
    || (meets_on_the_way o i but l || meets_on_the_way o i but r)
