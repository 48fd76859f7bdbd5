-- A turn keeps the records in order, and stores two links at most.
use Rattle.rb_trees.proofs.Words.{◌≡◌, ℕ, ◌≤◌, true, false, cond, [], ◌∷◌, ◌++◌, length, refl, sym}
use Rattle.rb_trees.proofs.Words.{◌∙◌, ap, append_assoc, arith, ◌==◌, Record, Side, Left, Right}
use Rattle.rb_trees.proofs.Words.{ColouredTree, tip, branch, blackened, rows, opposite, sided}
use Rattle.rb_trees.proofs.Words.{set_link, relink, set_root, relink_root, moved, turned}
use Rattle.rb_trees.proofs.Words.{turn_links}
use Rattle.std.proofs.Common.{Bool, eq-eqb}

pub rows_blackened : (t : ColouredTree) → rows (blackened t) ≡ rows t
rows_blackened tip = refl
rows_blackened (branch red l x r) = refl

-- of a node only the records of its trees matter
pub rows_sided : (s : Side) (j k : Bool) (a b : ColouredTree) (y : Record) (r q : ColouredTree)
    → rows a ≡ rows b → rows r ≡ rows q → rows (sided s j a y r) ≡ rows (sided s k b y q)
rows_sided Left j k a b y r q e f = ap (λ xs. xs ++ y ∷ rows r) e ∙ ap (λ ys. rows b ++ y ∷ ys) f
rows_sided Right j k a b y r q e f = ap (λ xs. xs ++ y ∷ rows a) f ∙ ap (λ ys. rows q ++ y ∷ ys) e

pub rows_turned : (s : Side) (j k : Bool) (t : ColouredTree) → rows (turned s j k t) ≡ rows t
rows_turned s j k tip = refl
rows_turned Left j k (branch red l y tip) = refl
rows_turned Left j k (branch red l y (branch q a x b)) =
    append_assoc (rows l) (y ∷ rows a) (x ∷ rows b)
rows_turned Right j k (branch red tip y r) = refl
rows_turned Right j k (branch red (branch q a x b) y r) =
    sym (append_assoc (rows a) (x ∷ rows b) (y ∷ rows r))

-- a turn to the other side and back to this one
pub turned_sided : (s : Side) (j k q red : Bool) (near : ColouredTree) (y : Record)
    (a : ColouredTree) (x : Record) (b : ColouredTree)
    → turned s j k (sided s red near y (sided s q a x b)) ≡ sided s j (sided s k near y a) x b
turned_sided Left j k q red near y a x b = refl
turned_sided Right j k q red near y a x b = refl

pub turned_back : (s : Side) (j k q red : Bool) (a : ColouredTree) (x : Record) (b : ColouredTree)
    (y : Record) (far : ColouredTree)
    → turned (opposite s) j k (sided s red (sided s q a x b) y far)
    ≡ sided s j a x (sided s k b y far)
turned_back Left j k q red a x b y far = refl
turned_back Right j k q red a x b y far = refl

-- how many links there are
pub turn_two : (s : Side) (c : ℕ) (t : ColouredTree) → length (turn_links s c t) ≤ 2
turn_two s c tip = omega arith
turn_two Left c (branch red l y tip) = omega arith
turn_two Left c (branch red l y (branch k a x b)) = omega arith
turn_two Right c (branch red tip y r) = omega arith
turn_two Right c (branch red (branch k a x b) y r) = omega arith

pub moved_one : (b a : ℕ) → moved b a ≤ 1
moved_one b a = elim (b == a) as (λ v. cond v 0 1 ≤ 1) [ true ↦ omega arith | false ↦ omega arith ]

pub not_moved : (b a : ℕ) → b ≡ a → moved b a ≡ 0
not_moved b a e = ap (λ v. cond v 0 1) (eq-eqb b a e)

pub relink_moved : (s : Side) (c i b a : ℕ) → length (relink s c i b a) ≡ moved b a
relink_moved s c i b a = elim (b == a) as (λ v.
    length (cond v [] (set_link s c i a ∷ [])) ≡ cond v 0 1) [ true ↦ refl | false ↦ refl ]

pub root_moved : (c b a : ℕ) → length (relink_root c b a) ≡ moved b a
root_moved c b a = elim (b == a) as (λ v.
    length (cond v [] (set_root c a ∷ [])) ≡ cond v 0 1) [ true ↦ refl | false ↦ refl ]

pub relink_same : (s : Side) (c i b a : ℕ) → b ≡ a → relink s c i b a ≡ []
relink_same s c i b a e = ap (λ v. cond v [] (set_link s c i a ∷ [])) (eq-eqb b a e)
