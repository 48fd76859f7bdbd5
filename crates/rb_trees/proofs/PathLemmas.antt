-- The ways down lead to places of the tree that they began in, and are no longer than it is deep.
use Rattle.rb_trees.proofs.Words.{◌≡◌, ◌+◌, ◌≤◌, List, ◌∷◌, refl, arith}
use Rattle.rb_trees.proofs.Words.{length, Ordering, Item, Record}
use Rattle.rb_trees.proofs.Words.{ColouredTree, tip, branch, shape, depth, Above, plugged}
use Rattle.rb_trees.proofs.Words.{past_left, past_right, way_at, place_at}
use Rattle.rb_trees.proofs.Words.{leaf_lies, first_way, first_place, Bool}
use Rattle.facts.proofs.Numbers.{suc-max_left, suc-max_right}
use Rattle.std.proofs.lemmas.Bool.Decides.{nat_tests}

pub plugged_to : (seen : Record → Ordering) (t : ColouredTree) (path : List Above)
    → plugged (way_at seen t path) (place_at seen t) ≡ plugged path t
plugged_to seen tip path = refl
plugged_to seen (branch red l y r) path =
    grind (
      arith,
      nat_tests,
      plugged_to seen l (past_left red y r ∷ path),
      plugged_to seen r (past_right red l y ∷ path),
    )

-- the way of an item ends where there is no node
pub place_leaf : (less : Item → Item → Bool) (x : Item) (t : ColouredTree)
    → place_at (leaf_lies less x) t ≡ tip
place_leaf less x tip = refl
place_leaf less x (branch red l y r) =
    grind (arith, nat_tests, place_leaf less x l, place_leaf less x r)

pub plugged_first : (t : ColouredTree) (path : List Above)
    → plugged (first_way t path) (first_place t) ≡ plugged path t
plugged_first tip path = refl
plugged_first (branch red tip y r) path = refl
plugged_first (branch red (branch k a x b) y r) path =
    plugged_first (branch k a x b) (past_left red y r ∷ path)

pub short_to : (seen : Record → Ordering) (t : ColouredTree) (path : List Above)
    → length (way_at seen t path) + depth (shape (place_at seen t)) ≤ length path + depth (shape t)
short_to seen tip path = omega arith
short_to seen (branch red l y r) path =
    grind (
      arith,
      nat_tests,
      short_to seen l (past_left red y r ∷ path),
      short_to seen r (past_right red l y ∷ path),
      suc-max_left,
      suc-max_right,
    )

pub short_first : (t : ColouredTree) (path : List Above)
    → length (first_way t path) + depth (shape (first_place t)) ≤ length path + depth (shape t)
short_first tip path = omega arith
short_first (branch red tip y r) path = omega arith
short_first (branch red (branch k a x b) y r) path =
    grind (arith, nat_tests, short_first (branch k a x b) (past_left red y r ∷ path), suc-max_left)
