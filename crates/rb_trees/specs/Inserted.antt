-- An insert: the new node is a red leaf; going up, a black node is mended that has a red child with
-- a red child.
--
-- The child on one side is x, the node y. If the other child is red, too, the three change their
-- colours, and nothing moves. Else y is turned to the other side; a red child on the inner side
-- takes the place of x first. (A star marks a red node.)
--
--         y             y*               y             x              y               z
--        / \           / \              / \           / \            / \            /   \
--       x*  far*  ->  x   far          x*  far  ->   a*  y*         x*  far   ->   x*    y*
--      /             /                / \               / \        / \            / \   / \
--     a*            a*               a*  b             b   far    a   z*         a   b c   far
--                                                                    / \
--                                                                   b   c
use Rattle.std.specs.Prelude.{ℕ, true, false, List, [], ◌++◌, if◌then◌else◌}
use Rattle.word_layout.specs.declared.stores.Store.{Store}
use Rattle.rb_trees.specs.declared.Record.{Record}
use Rattle.rb_trees.specs.declared.Side.{Side}
use Rattle.rb_trees.specs.declared.RedViolation.{RedViolation}
use Rattle.rb_trees.specs.declared.RedViolation.TheVariants.{Nowhere, Outer, Inner}
use Rattle.rb_trees.specs.Trees.{ColouredTree, tip, branch, is_red, blackened, shape}
use Rattle.rb_trees.specs.Sides.{opposite, on, sided}
use Rattle.rb_trees.specs.Turns.{link, relink, turned, turn_links}

-- whether the top of a tree on this side and a child of it are red, and which child
abbrev pub red_violation : Side → ColouredTree → RedViolation
red_violation s tip = Nowhere
red_violation s (branch red l x r) =
    if red then
    (if is_red (on s l r) then Outer else if is_red (on (opposite s) l r) then Inner else Nowhere)
    else Nowhere

abbrev pub recoloured : Side → ColouredTree → Record → ColouredTree → ColouredTree
recoloured s near y far = sided s true (blackened near) y (blackened far)

-- a black node whose child on this side may be red with a red child
abbrev pub mended_over : Side → RedViolation → ColouredTree → Record → ColouredTree → ColouredTree
mended_over s Nowhere near y far = sided s false near y far
mended_over s Outer near y far =
    if is_red far then recoloured s near y far
    else turned (opposite s) false true (sided s false near y far)
mended_over s Inner near y far =
    if is_red far then recoloured s near y far
    else turned (opposite s) false true (sided s false (turned s true true near) y far)

abbrev pub mended : Side → ColouredTree → ColouredTree
mended s tip = tip
mended s (branch red l y r) =
    if red then branch red l y r
    else mended_over s (red_violation s (on s l r)) (on s l r) y (on (opposite s) l r)

-- its stores
abbrev pub mend_links_over : Side → ℕ → RedViolation → ColouredTree → Record → ColouredTree
    → List Store
mend_links_over s copy Nowhere near y far = []
mend_links_over s copy Outer near y far =
    if is_red far then [] else turn_links (opposite s) copy (sided s false near y far)
mend_links_over s copy Inner near y far =
    if is_red far then []
    else
    (turn_links s copy near
    ++ relink s copy y.node (link (shape near)) (link (shape (turned s true true near))))
    ++ turn_links (opposite s) copy (sided s false (turned s true true near) y far)

abbrev pub mend_links : Side → ℕ → ColouredTree → List Store
mend_links s copy tip = []
mend_links s copy (branch red l y r) =
    if red then []
    else mend_links_over s copy (red_violation s (on s l r)) (on s l r) y (on (opposite s) l r)
