-- What a cursor shows: a tree in hand, and the path up from it (a zipper).
use Rattle.std.specs.Prelude.{◌≡◌, ℕ, Bool, true, false, List, [], ◌∷◌, ◌++◌, Option, Some, None}
use Rattle.std.specs.Prelude.{refl}
use Rattle.std.specs.Coded.{Coded, code_by, coded×, coded_ℕ, coded_bool, coded_list, coded_option}
use Rattle.std.proofs.Common.{◌∙◌, ap}
use Rattle.order_laws.specs.declared.items.Item.{Item}
use Rattle.order_laws.specs.Items.{item_code}
use Rattle.rb_trees.specs.declared.Record.{Record}
use Rattle.rb_trees.specs.Trees.{ColouredTree, tip, branch}
use Rattle.rb_trees.specs.Paths.{Above}
use Rattle.rb_trees.specs.declared.Side.{Side}
use Rattle.rb_trees.specs.declared.Side.TheVariants.{Left, Right}

-- the tree in hand, the nodes above it with the nearest first, and how many nodes more fit
pub record Zipper : Type 0 where
  pub tree : ColouredTree
  pub path : List Above
  pub room : ℕ

-- another tree in hand
abbrev pub holding : ColouredTree → Zipper → Zipper
holding t z = record z { tree = t }

-- what a function makes of the tree in hand
abbrev pub altered : (ColouredTree → ColouredTree) → Zipper → Zipper
altered f z = record z { tree = f z.tree }

abbrev pub is_left : Side → Bool
is_left Left = true
is_left Right = false

abbrev pub side_of : Bool → Side
side_of true = Left
side_of false = Right

pub side-back : (s : Side) → side_of (is_left s) ≡ s
side-back Left = refl
side-back Right = refl

abbrev pub side_code : Coded Side
side_code = code_by Bool coded_bool is_left side_of side-back

abbrev pub record_code : Coded Record
record_code =
    code_by (ℕ × Item) (coded× coded_ℕ item_code) (λ r. (r.node, r.item))
    (λ p. record { node = p.0; item = p.1 }) (λ _. refl)

-- both trees of a node before the node, and nothing for no tree
abbrev pub tree_written : ColouredTree → List (Option (Bool × Record))
tree_written tip = None ∷ []
tree_written (branch red l x r) = tree_written l ++ (tree_written r ++ Some (red, x) ∷ [])

-- the trees that are built so far, the last first
abbrev pub trees_built_on : List ColouredTree → Option (Bool × Record) → List ColouredTree
trees_built_on trees None = tip ∷ trees
trees_built_on [] (Some i) = []
trees_built_on (r ∷ []) (Some i) = []
trees_built_on (r ∷ l ∷ trees) (Some i) = branch i.0 l i.1 r ∷ trees

abbrev pub trees_built : List ColouredTree → List (Option (Bool × Record)) → List ColouredTree
trees_built trees [] = trees
trees_built trees (x ∷ xs) = trees_built (trees_built_on trees x) xs

abbrev pub first_of_trees : List ColouredTree → ColouredTree
first_of_trees [] = tip
first_of_trees (t ∷ trees) = t

abbrev pub tree_rebuilt : List (Option (Bool × Record)) → ColouredTree
tree_rebuilt xs = first_of_trees (trees_built [] xs)

built-append : (trees : List ColouredTree) (xs ys : List (Option (Bool × Record))) →
    trees_built trees (xs ++ ys) ≡ trees_built (trees_built trees xs) ys
built-append trees [] ys = refl
built-append trees (x ∷ xs) ys = built-append (trees_built_on trees x) xs ys

built-written : (trees : List ColouredTree) (t : ColouredTree)
    → trees_built trees (tree_written t) ≡ t ∷ trees
built-written trees tip = refl
built-written trees (branch red l x r) =
    built-append trees (tree_written l) (tree_written r ++ Some (red, x) ∷ [])
    ∙ ap (λ ts. trees_built ts (tree_written r ++ Some (red, x) ∷ [])) (built-written trees l)
    ∙ built-append (l ∷ trees) (tree_written r) (Some (red, x) ∷ [])
    ∙ ap (λ ts. trees_built ts (Some (red, x) ∷ [])) (built-written (l ∷ trees) r)

pub rebuilt-written : (t : ColouredTree) → tree_rebuilt (tree_written t) ≡ t
rebuilt-written t = ap first_of_trees (built-written [] t)

abbrev pub branches_code : Coded ColouredTree
branches_code =
    code_by (List (Option (Bool × Record)))
    (coded_list (coded_option (coded× coded_bool record_code)))
    tree_written tree_rebuilt rebuilt-written

abbrev pub above_code : Coded Above
above_code =
    code_by (Side × (Bool × (Record × ColouredTree)))
    (coded× side_code (coded× coded_bool (coded× record_code branches_code)))
    (λ a. (a.side, (a.red, (a.row, a.other))))
    (λ p. record { side = p.0; red = p.1.0; row = p.1.1.0; other = p.1.1.1 }) (λ _. refl)

abbrev pub zipper_code : Coded Zipper
zipper_code =
    code_by (ColouredTree × (List Above × ℕ))
    (coded× branches_code (coded× (coded_list above_code) coded_ℕ))
    (λ z. (z.tree, (z.path, z.room))) (λ p. record { tree = p.0; path = p.1.0; room = p.1.1 })
    (λ _. refl)
