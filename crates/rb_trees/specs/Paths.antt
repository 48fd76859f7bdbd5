-- A place in a tree: the subtree in hand, and the path of the nodes above it, nearest first.
use Rattle.std.specs.Prelude.{Bool, List, [], ◌∷◌, if◌then◌else◌}
use Rattle.std.specs.declared.cmp.Ordering.{Ordering}
use Rattle.std.specs.declared.cmp.Ordering.TheVariants.{Less, Equal, Greater}
use Rattle.order_laws.specs.declared.items.Item.{Item}
use Rattle.order_laws.specs.Orders.{Order}
use Rattle.rb_trees.specs.declared.Record.{Record}
use Rattle.rb_trees.specs.declared.Side.{Side}
use Rattle.rb_trees.specs.declared.Side.TheVariants.{Left, Right}
use Rattle.rb_trees.specs.Trees.{ColouredTree, tip, branch}
use Rattle.rb_trees.specs.Sides.{sided}

-- a node above: on which side of it the way goes on, its colour, its record, its other subtree
pub record Above : Type 0 where
  pub side : Side
  pub red : Bool
  pub row : Record
  pub other : ColouredTree

-- the node above in this colour, with the tree on the side on which the way went on
abbrev pub joined : Above → Bool → ColouredTree → ColouredTree
joined a red t = sided a.side red t a.row a.other

-- all the way up, in the colours that the nodes have
abbrev pub plugged : List Above → ColouredTree → ColouredTree
plugged [] t = t
plugged (a ∷ path) t = plugged path (joined a a.red t)

-- a node that is passed on the left, or on the right
abbrev pub past_left : Bool → Record → ColouredTree → Above
past_left red y r = record { side = Left; red = red; row = y; other = r }

abbrev pub past_right : Bool → ColouredTree → Record → Above
past_right red l y = record { side = Right; red = red; row = y; other = l }

-- the place to which comparisons with records lead: a node, or none
abbrev pub place_from : Ordering → ColouredTree → ColouredTree → ColouredTree → ColouredTree
place_from Less left here right = left
place_from Equal left here right = here
place_from Greater left here right = right

abbrev pub place_at : (Record → Ordering) → ColouredTree → ColouredTree
place_at seen tip = tip
place_at seen (branch red l y r) =
    place_from (seen y) (place_at seen l) (branch red l y r) (place_at seen r)

-- the path up from there
abbrev pub way_from : Ordering → List Above → List Above → List Above → List Above
way_from Less left here right = left
way_from Equal left here right = here
way_from Greater left here right = right

abbrev pub way_at : (Record → Ordering) → ColouredTree → List Above → List Above
way_at seen tip path = path
way_at seen (branch red l y r) path =
    way_from (seen y) (way_at seen l (past_left red y r ∷ path)) path
    (way_at seen r (past_right red l y ∷ path))

-- an item belongs after each record that it is not less than, by an order's `less`
abbrev pub leaf_lies : (Item → Item → Bool) → Item → Record → Ordering
leaf_lies less x y = if less x y.item then Less else Greater

-- as that, or at a record that it is not apart from
abbrev pub apart_lies : {K : Type 0} → Order K → Item → Record → Ordering
apart_lies o x y = if o.apart y.item x then leaf_lies o.less x y else Equal

-- the path up from the place of an item: left of each node that it is less than
abbrev pub way_by : (Item → Item → Bool) → Item → ColouredTree → List Above → List Above
way_by less x t path = way_at (leaf_lies less x) t path

-- the first node
abbrev pub first_place : ColouredTree → ColouredTree
first_place tip = tip
first_place (branch red tip y r) = branch red tip y r
first_place (branch red (branch k a x b) y r) = first_place (branch k a x b)

-- the path up from there
abbrev pub first_way : ColouredTree → List Above → List Above
first_way tip path = path
first_way (branch red tip y r) path = path
first_way (branch red (branch k a x b) y r) path =
    first_way (branch k a x b) (past_left red y r ∷ path)
