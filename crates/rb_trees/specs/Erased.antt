-- An erase: if a node has no right subtree, its left one takes its place; else the next node in
-- order does, which has no left subtree. Going up, a node is filled if its subtree on a side is
-- short: each way down in that subtree has one black node less than before.
--
-- The short subtree is near, the node y, the other child x. If x is black with a red child on the
-- outer side, y is turned to the side of near; if the inner child alone is red, it takes the place
-- of x first. If x and its children are black, x becomes red, and the whole is short unless y was
-- red. (A star marks a red node; the top keeps the colour of y.)
--
--       y              x               y                z               y             y
--      / \            / \             / \             /   \            / \           / \
--   near  x     ->   y   b         near  x     ->    y     x        near  x    ->  near  x*
--        / \        / \                 / \         / \   / \            / \           / \
--       a   b*   near  a               z*  b     near  c d   b          a   b         a   b
--                                     / \
--                                    c   d
--
-- A red x is turned up first; then y is red, and has a black child there, so that one of the cases
-- above fills it.
--
--       y             x
--      / \           / \
--   near  x*  ->   y*   b
--        / \      / \
--       a   b  near  a
use Rattle.std.specs.Prelude.{ℕ, suc, Bool, true, false, not, List, [], ◌++◌}
use Rattle.std.specs.Prelude.{Option, Some, None, if◌then◌else◌, ◌==◌, nat_lt}
use Rattle.std.specs.declared.cmp.Ordering.{Ordering}
use Rattle.std.specs.declared.cmp.Ordering.TheVariants.{Less, Equal, Greater}
use Rattle.order_laws.specs.declared.items.Item.{Item}
use Rattle.word_layout.specs.declared.stores.Store.{Store}
use Rattle.rb_trees.specs.declared.Record.{Record}
use Rattle.rb_trees.specs.declared.Side.{Side}
use Rattle.rb_trees.specs.Trees.{ColouredTree, tip, branch, is_red, blackened, shape}
use Rattle.rb_trees.specs.Sides.{opposite, on, sided}
use Rattle.rb_trees.specs.Turns.{link, relink, turned, turn_links, turn_links_over}

-- what is left of a tree, and whether it is short
pub record Remainder : Type 0 where
  pub tree : ColouredTree
  pub short : Bool

abbrev pub whole : ColouredTree → Remainder
whole t = record { tree = t; short = false }

-- what takes the place of a node of this colour that had one subtree at most
abbrev pub lowered : Bool → ColouredTree → Remainder
lowered true t = whole t
lowered false tip = record { tree = tip; short = true }
lowered false (branch red l x r) = record { tree = branch false l x r; short = not red }

-- a node whose subtree on this side is short, and whose other child is black
abbrev pub filled_over_black : Side → Bool → ColouredTree → Record → ColouredTree → Remainder
filled_over_black s red near y tip = whole (sided s red near y tip)
filled_over_black s red near y (branch k l x r) =
    if is_red (on (opposite s) l r) then whole
    (sided s red (sided s false near y (on s l r)) x (blackened (on (opposite s) l r)))
    else if is_red (on s l r) then whole
    (turned s red false
    (sided s red near y (turned (opposite s) false false (branch k l x r))))
    else record { tree = sided s false near y (branch true l x r); short = not red }

abbrev pub filled_black : Side → ColouredTree → Remainder
filled_black s tip = whole tip
filled_black s (branch red l y r) =
    filled_over_black s red (on s l r) y (on (opposite s) l r)

-- its stores
abbrev pub fill_links_over_black : Side → ℕ → Record → ColouredTree → List Store
fill_links_over_black s copy y tip = []
fill_links_over_black s copy y (branch k l x r) =
    if is_red (on (opposite s) l r) then turn_links_over s copy y (branch k l x r)
    else if is_red (on s l r) then
    (turn_links (opposite s) copy (branch k l x r)
    ++ relink (opposite s) copy y.node (suc x.node)
    (link (shape (turned (opposite s) false false (branch k l x r)))))
    ++ turn_links_over s copy y (turned (opposite s) false false (branch k l x r)) else []

abbrev pub fill_links_black : Side → ℕ → ColouredTree → List Store
fill_links_black s copy tip = []
fill_links_black s copy (branch red l y r) = fill_links_over_black s copy y (on (opposite s) l r)

-- a node whose subtree on this side is short
abbrev pub filled_over : Side → Bool → ColouredTree → Record → ColouredTree → Remainder
filled_over s red near y tip = whole (sided s red near y tip)
filled_over s red near y (branch k l x r) =
    if k then whole
    (sided s false (filled_over_black s true near y (on s l r)).tree x (on (opposite s) l r))
    else filled_over_black s red near y (branch k l x r)

abbrev pub filled : Side → ColouredTree → Remainder
filled s tip = whole tip
filled s (branch red l y r) = filled_over s red (on s l r) y (on (opposite s) l r)

-- its stores
abbrev pub fill_links_over : Side → ℕ → ColouredTree → Record → ColouredTree → List Store
fill_links_over s copy near y tip = []
fill_links_over s copy near y (branch k l x r) =
    if k then turn_links_over s copy y (branch k l x r)
    ++ (fill_links_over_black s copy y (on s l r)
    ++ relink s copy x.node (suc y.node)
    (link (shape (filled_over_black s true near y (on s l r)).tree)))
    else fill_links_over_black s copy y (branch k l x r)

abbrev pub fill_links : Side → ℕ → ColouredTree → List Store
fill_links s copy tip = []
fill_links s copy (branch red l y r) =
    fill_links_over s copy (on s l r) y (on (opposite s) l r)

-- how a first word compares with the item of a record
abbrev pub first_word_at : ℕ → Record → Ordering
first_word_at a y = if a == y.item.a then Equal else if nat_lt a y.item.a then Less else Greater

-- how an item of the tree compares with the item of a record, by an order's `less`
abbrev pub item_lies : (Item → Item → Bool) → Item → Record → Ordering
item_lies less i y = if y.item.a == i.a then Equal else if less i y.item then Less else Greater

-- the record to which the function leads
abbrev pub record_found_at : Ordering → Record → Option Record → Option Record → Option Record
record_found_at Less y less more = less
record_found_at Equal y less more = Some y
record_found_at Greater y less more = more

abbrev pub found : (Record → Ordering) → ColouredTree → Option Record
found seen tip = None
found seen (branch red l y r) = record_found_at (seen y) y (found seen l) (found seen r)
