-- Going up: a node above gets the tree in hand back.
use Rattle.std.specs.Prelude.{ℕ, Bool, List, [], ◌∷◌, length, if◌then◌else◌, nat_lt}
use Rattle.rb_trees.specs.Trees.{ColouredTree}
use Rattle.rb_trees.specs.Paths.{Above, joined, plugged}
use Rattle.rb_cursor.specs.Zippers.{Zipper}

-- one step up: the nearest node above is in hand, in this colour
abbrev pub closed_zipper : Bool → ColouredTree → List Above → ℕ → Zipper
closed_zipper red t [] room = record { tree = t; path = []; room = room }
closed_zipper red t (a ∷ p) room = record { tree = joined a red t; path = p; room = room }

-- one step up: the nearest node above is in hand, in the colour that it has
abbrev pub risen_from : ColouredTree → List Above → ℕ → Zipper
risen_from t [] room = record { tree = t; path = []; room = room }
risen_from t (a ∷ p) room = record { tree = joined a a.red t; path = p; room = room }

abbrev pub risen : Zipper → Zipper
risen z = risen_from z.tree z.path z.room

-- up until only d nodes are above, in the colours that they have
abbrev pub closed_to : ℕ → ColouredTree → List Above → ℕ → Zipper
closed_to d t [] room = record { tree = t; path = []; room = room }
closed_to d t (a ∷ p) room =
    if nat_lt (length p) d then record { tree = t; path = a ∷ p; room = room }
    else closed_to d (joined a a.red t) p room

-- all the way up, in the colours that the nodes have
abbrev pub all_closed : Zipper → Zipper
all_closed z = record { tree = plugged z.path z.tree; path = []; room = z.room }
