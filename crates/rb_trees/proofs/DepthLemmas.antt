-- How deep a red-black tree is.
use Rattle.rb_trees.proofs.Words.{◌≡◌, ℕ, zero, suc, ◌+◌, ◌*◌, ◌≤◌, ◌^◌, true, false, refl, sym}
use Rattle.rb_trees.proofs.Words.{subst, arith, length, Nodes, none, listed, ColouredTree, tip}
use Rattle.rb_trees.proofs.Words.{branch, is_red, shape, HasBlackHeight, HasNoClash, IsBalanced}
use Rattle.rb_trees.proofs.Words.{depth, Bool}
use Rattle.std.proofs.lemmas.Nat.{pow-add}
use Rattle.std.proofs.Math.Nat.{pow-suc, pow-le-pow_right, mul-le-mul}
use Rattle.word_layout.proofs.HoldsLemmas.{size, size_listed}
use Rattle.std.proofs.lemmas.Bool.Decides.{nat_tests}

-- at most two nodes for each black one, and one more under a red top
abbrev extra : Bool → ℕ
extra true = 1
extra false = 0

extra_one : (b : Bool) → extra b ≤ 1
extra_one true = omega arith
extra_one false = omega arith

depth_by_height : (t : ColouredTree) (h : ℕ) → HasNoClash t → HasBlackHeight t h
    → depth (shape t) ≤ 2 * h + extra (is_red t)
depth_by_height tip h c e = omega arith
depth_by_height (branch true l x r) h c e =
    grind (arith, nat_tests, depth_by_height l h c.2 e.0, depth_by_height r h c.3 e.1)
depth_by_height (branch false l x r) zero c e = absurd e
depth_by_height (branch false l x r) (suc h) c e =
    grind (arith, nat_tests, depth_by_height l h c.0 e.0, depth_by_height r h c.1 e.1, extra_one)

-- as many nodes at least as a full tree of the black ones has
size_by_height : (t : ColouredTree) (h : ℕ) → HasBlackHeight t h → 2 ^ h ≤ suc (size (shape t))
size_by_height tip h e = subst (λ k. 2 ^ k ≤ 1) (sym e) (omega arith)
size_by_height (branch true l x r) h e = omega (arith, size_by_height l h e.0)
size_by_height (branch false l x r) zero e = absurd e
size_by_height (branch false l x r) (suc h) e =
    omega (arith, size_by_height l h e.0, size_by_height r h e.1, pow-suc 2 h)

-- what is said above of such trees: no nodes are one, and it is not deep
pub balanced_none : IsBalanced none
balanced_none = (tip, record { black = refl; calm = tt; even = (0, refl) }, refl)

pub balanced_depth : (tree : Nodes) → IsBalanced tree
    → 2 ^ depth tree ≤ (length (listed tree) + 1) * (length (listed tree) + 1)
balanced_depth tree (t, is, same) =
    let n = length (listed tree) in
    let h = (is.even).0 in
    let deep : depth (shape t) ≤ 2 * h + 0 = subst (λ b. depth (shape t) ≤ 2 * h + extra b) is.black
    (depth_by_height t h is.calm (is.even).1) in
    let d : depth tree ≤ h + h = subst (λ s. depth s ≤ h + h) same (omega (arith, deep)) in
    let s : 2 ^ h ≤ n + 1 = omega (
      arith,
      subst (λ s. 2 ^ h ≤ suc (size s)) same (size_by_height t h (is.even).1),
      size_listed tree,
    ) in
    let p : 2 ^ depth tree ≤ 2 ^ (h + h) = pow-le-pow_right (omega arith) d in
    let q : 2 ^ (h + h) ≡ 2 ^ h * 2 ^ h = pow-add 2 h h in
    let r : 2 ^ h * 2 ^ h ≤ (n + 1) * (n + 1) = mul-le-mul s s in
    omega (arith, p, q, r)
