-- Trees, paths and chains at keys: what a write of other nodes leaves as it is, and what is read
-- back.
use Rattle.rb_cursor.proofs.Words.{◌≡◌, ◌≢◌, ℕ, zero, suc, ◌<◌, ◌≤◌, Bool, List, [], ◌∷◌, length}
use Rattle.rb_cursor.proofs.Words.{Some, None, set, refl, ap, ◌∙◌, arith, get_or-set_other, Slab}
use Rattle.rb_cursor.proofs.Words.{get, slab_len, with_value, ContainsKey-within, Record, branch}
use Rattle.rb_cursor.proofs.Words.{Node, Step, Side, Left, Right, Above, Keyed, nil, keyed, Level}
use Rattle.rb_cursor.proofs.Words.{link_of, plain, plain_level, plain_path, size, path_size, at_key}
use Rattle.rb_cursor.proofs.Words.{uses, path_uses, list_uses, sided_node, IsLinked, IsPath}
use Rattle.rb_cursor.proofs.Words.{IsChain, tree_below, tree_from, no_step, AreSteps, above_with}
use Rattle.rb_cursor.proofs.Words.{node_or, above_at, path_from, nat_tests}
use Rattle.std.proofs.lemmas.List.Sums.{sum_by-set}

pub at_same : (k : ℕ) → at_key k k ≡ 1
at_same k = grind (arith, nat_tests)

pub at_apart : (i k : ℕ) → i ≢ k → at_key i k ≡ 0
at_apart i k = grind (arith, nat_tests)

pub at_most : (i k : ℕ) → at_key i k ≤ 1
at_most i k = grind (arith, nat_tests)

-- as long as the nodes at the keys in use stay, a tree, a path and a chain stay
pub linked_kept : (s u : Slab Node) (t : Keyed) → ((i : ℕ) → 0 < uses i t → get u i ≡ get s i) →
    IsLinked s t → IsLinked u t
linked_kept s u nil same h = tt
linked_kept s u (keyed red l k x r) same h = (
  same k (omega (arith, at_same k)) ∙ h.0,
  linked_kept s u l (λ i used. same i (omega arith)) h.1,
  linked_kept s u r (λ i used. same i (omega arith)) h.2,
)

pub path_kept : (s u : Slab Node) (link : ℕ) (p : List Level) →
    ((i : ℕ) → 0 < path_uses i p → get u i ≡ get s i) → IsPath s link p → IsPath u link p
path_kept s u link [] same h = tt
path_kept s u link (a ∷ p) same h = (
  same a.key (omega (arith, at_same a.key)) ∙ h.0,
  linked_kept s u a.other (λ i used. same i (omega arith)) h.1,
  path_kept s u (suc a.key) p (λ i used. same i (omega arith)) h.2,
)

pub chain_kept : (s u : Slab Node) (ks : List ℕ) →
    ((i : ℕ) → 0 < list_uses i ks → get u i ≡ get s i) → IsChain s ks → IsChain u ks
chain_kept s u [] same h = tt
chain_kept s u (k ∷ ks) same h = (
  (h.0.0, same k (omega (arith, at_same k)) ∙ h.0.1, h.0.2),
  chain_kept s u ks (λ i used. same i (omega arith)) h.1,
)

-- a write at a key that is not in use
pub linked_beside : (s u : Slab Node) (k : ℕ) (t : Keyed) → ((i : ℕ) → i ≢ k → get u i ≡ get s i) →
    uses k t ≡ 0 → IsLinked s t → IsLinked u t
linked_beside s u k t same none h =
    linked_kept s u t (λ i used. same i (λ e. let z = ap (λ (j : ℕ). uses j t) e in omega arith)) h

pub path_beside : (s u : Slab Node) (k link : ℕ) (p : List Level) →
    ((i : ℕ) → i ≢ k → get u i ≡ get s i) → path_uses k p ≡ 0 → IsPath s link p → IsPath u link p
path_beside s u k link p same none h = grind (arith, nat_tests, path_kept)

pub chain_beside : (s u : Slab Node) (k : ℕ) (ks : List ℕ) → ((i : ℕ) → i ≢ k → get u i ≡ get s i) →
    list_uses k ks ≡ 0 → IsChain s ks → IsChain u ks
chain_beside s u k ks same none h = grind (arith, nat_tests, chain_kept)

-- a vacant key is not in use
pub linked_vacant : (s : Slab Node) (k : ℕ) (t : Keyed) → get s k ≡ None → IsLinked s t →
    uses k t ≡ 0
linked_vacant s k nil empty h = refl
linked_vacant s k (keyed red l j x r) empty h =
    grind (arith, nat_tests, linked_vacant s k l empty h.1, linked_vacant s k r empty h.2, at_apart)

pub path_vacant : (s : Slab Node) (k link : ℕ) (p : List Level) → get s k ≡ None → IsPath s link p →
    path_uses k p ≡ 0
path_vacant s k link [] empty h = refl
path_vacant s k link (a ∷ p) empty h =
    grind (arith, nat_tests, path_vacant s k (suc a.key) p empty h.2, at_apart, linked_vacant)

pub chain_vacant : (s : Slab Node) (k : ℕ) (ks : List ℕ) → get s k ≡ None → IsChain s ks →
    list_uses k ks ≡ 0
chain_vacant s k [] empty h = refl
chain_vacant s k (j ∷ ks) empty h =
    grind (arith, nat_tests, chain_vacant s k ks empty h.1, at_apart)

-- to a depth that suffices the tree is found
pub tree_is : (s : Slab Node) (t : Keyed) (fuel : ℕ) → IsLinked s t → size t ≤ fuel →
    tree_from s fuel (link_of t) ≡ plain t
tree_is s nil zero h e = refl
tree_is s nil (suc fuel) h e = refl
tree_is s (keyed red l k x r) zero h e = absurd (omega arith)
tree_is s (keyed red l k x r) (suc fuel) h e =
    ap (tree_below (tree_from s fuel)) h.0
    ∙ ap (λ u. branch red u x (tree_from s fuel (link_of r))) (tree_is s l fuel h.1 (omega arith))
    ∙ ap (λ u. branch red (plain l) x u) (tree_is s r fuel h.2 (omega arith))

above_by : (s : Slab Node) (side : Side) (red : Bool) (key : ℕ) (row : Record) (other : Keyed)
    (link fuel : ℕ) → get s key ≡ Some (sided_node side red row link (link_of other)) →
    IsLinked s other → size other ≤ fuel →
    above_with s fuel side (node_or (get s key)) ≡ record {
      side = side;
      red = red;
      row = row;
      other = plain other;
    }
above_by s Left red key row other link fuel h o e = grind (arith, nat_tests, tree_is)
above_by s Right red key row other link fuel h o e = grind (arith, nat_tests, tree_is)

-- and the path
pub path_is : (s : Slab Node) (steps : List Step) (depth link : ℕ) (p : List Level) (fuel : ℕ) →
    IsPath s link p → AreSteps steps depth p → path_size p ≤ fuel →
    path_from s fuel steps depth ≡ plain_path p
path_is s steps depth link [] fuel h a e = ap (path_from s fuel steps) a
path_is s steps depth link (l ∷ p) fuel h a e =
    ap (path_from s fuel steps) a.0
    ∙ ap (λ (x : Step). above_at s fuel x ∷ path_from s fuel steps (length p)) a.1
    ∙ ap (λ (x : Above). x ∷ path_from s fuel steps (length p))
    (above_by s l.side l.red l.key l.row l.other link fuel h.0 h.1 (omega arith))
    ∙ ap (λ (q : List Above). plain_level l ∷ q)
    (path_is s steps (length p) (suc l.key) p fuel h.2 a.2 (omega arith))

-- a write of a later step
pub steps_kept : (steps : List Step) (depth k : ℕ) (x : Step) (p : List Level) → depth ≤ k →
    AreSteps steps depth p → AreSteps (set steps k x) depth p
steps_kept steps depth k x [] below h = h
steps_kept steps depth k x (a ∷ p) below h =
    let other : length p ≢ k = omega (arith, h.0) in (
      h.0,
      get_or-set_other steps k (length p) x no_step other
          ∙ h.1,
      steps_kept steps (length p) k x p (omega (arith, h.0)) h.2,
    )

pub steps_length : (steps : List Step) (depth : ℕ) (p : List Level) → AreSteps steps depth p →
    depth ≡ length p
steps_length steps depth [] h = h
steps_length steps depth (a ∷ p) h = h.0

pub plain_length : (p : List Level) → length (plain_path p) ≡ length p
plain_length [] = refl
plain_length (a ∷ p) = ap suc (plain_length p)

-- one record is written in the place of another
pub same_len : (s : Slab Node) (k : ℕ) (old new : Node) → get s k ≡ Some old →
    slab_len (with_value s k new) ≡ slab_len s
same_len s k old new found = grind (arith, nat_tests, ContainsKey-within, sum_by-set)
