-- Steps up, as the calls of a cursor show them.
use Rattle.rb_cursor.proofs.Words.{◌≡◌, ℕ, suc, List, [], ◌∷◌, ◌++◌, refl, ◌∙◌, ap, length}
use Rattle.rb_cursor.proofs.Words.{length-append, arith, le-ltb, lt-ltb, ColouredTree, Above}
use Rattle.rb_cursor.proofs.Words.{joined, plugged, Nearest, Zipper, IsNearest, closed_to}
use Rattle.rb_cursor.proofs.Words.{all_closed, risen_from, risen, nat_tests}

-- the nearest node above, as the path has it
abbrev pub above_of : {path : List Above} (up : Nearest) → IsNearest path up → Above
above_of up near = record { side = up.side; red = up.red; row = near.row; other = near.other }

abbrev pub zipper : ColouredTree → List Above → ℕ → Zipper
zipper t path room = record { tree = t; path = path; room = room }

pub shorter : (here : Zipper) (up : Nearest) (near : IsNearest here.path up)
    → length here.path ≡ suc (length near.rest)
shorter here up near = ap length near.was

-- the jump up past a part of the path
pub closed_past : (part base : List Above) (t : ColouredTree) (room : ℕ)
    → closed_to (length base) t (part ++ base) room ≡ zipper (plugged part t) base room
closed_past [] [] t room = refl
closed_past [] (b ∷ base) t room = grind (arith, nat_tests, lt-ltb)
closed_past (a ∷ part) base t room =
    grind (arith, nat_tests, closed_past part base (joined a a.red t) room, le-ltb, length-append)

pub closed_room : (d : ℕ) (t : ColouredTree) (path : List Above) (room : ℕ)
    → (closed_to d t path room).room ≡ room
closed_room d t [] room = refl
closed_room d t (a ∷ path) room =
    grind (arith, nat_tests, closed_room d (joined a a.red t) path room)

-- the jump of one step
pub risen_by : (d : ℕ) (t : ColouredTree) (path : List Above) (room : ℕ) → suc d ≡ length path
    → closed_to d t path room ≡ risen_from t path room
risen_by d t [] room e = absurd (omega arith)
risen_by d t (a ∷ path) room e =
    let same : d ≡ length path = omega arith in
    ap (λ k. closed_to k t (a ∷ path) room) same ∙ closed_past (a ∷ []) path t room

-- the node above, when it was gone up to
pub risen_there : (here : Zipper) (up : Nearest) (near : IsNearest here.path up)
    → risen here ≡ zipper (joined (above_of up near) up.red here.tree) near.rest here.room
risen_there here up near = ap (λ p. risen_from here.tree p here.room) near.was

-- closed all the way up from a place of the same tree, a cursor is where it was
pub all_back : (start here new : Zipper) → start.path ≡ [] →
    plugged here.path here.tree ≡ plugged start.path start.tree → here.room ≡ start.room →
    new ≡ all_closed here → new ≡ start
all_back start here new root whole room closes = grind (arith, nat_tests)
