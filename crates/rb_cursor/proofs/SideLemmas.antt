-- A tree at keys seen from a side: the subtree there, and the one on the other side.
use Rattle.rb_cursor.proofs.Words.{◌≡◌, ℕ, suc, ◌+◌, Bool, Some, refl, ap, arith, Slab, get, Record}
use Rattle.rb_cursor.proofs.Words.{Side, Left, Right, ColouredTree, tip, opposite, sided, Node}
use Rattle.rb_cursor.proofs.Words.{turned, child_at, with_link, weight, Keyed, nil, keyed, link_of}
use Rattle.rb_cursor.proofs.Words.{plain, size, at_key, uses, sided_node, record_of, IsLinked}

-- a node with a subtree on this side and another on the other side
abbrev pub joined_keyed : Side → Bool → Keyed → ℕ → Record → Keyed → Keyed
joined_keyed Left red t k x other = keyed red t k x other
joined_keyed Right red t k x other = keyed red other k x t

pub record Seen (side : Side) (key : ℕ) (t : Keyed) : Type 0 where
  pub red : Bool
  pub near : Keyed
  pub row : Record
  pub far : Keyed
  pub is : t ≡ joined_keyed side red near key row far

seen_as : (side : Side) (red : Bool) (near : Keyed) (k key : ℕ) (row : Record) (far : Keyed)
    → suc k ≡ suc key → Seen side key (joined_keyed side red near k row far)
seen_as side red near k key row far e = record {
  red = red;
  near = near;
  row = row;
  far = far;
  is = let same : k ≡ key = omega arith in
      ap (λ (j : ℕ). joined_keyed side red near j row far) same;
}

-- a tree that a link leads to is such a node
pub seen : (side : Side) (key : ℕ) (t : Keyed) → link_of t ≡ suc key → Seen side key t
seen side key nil e = absurd (omega arith)
seen Left key (keyed red l k x r) e = seen_as Left red l k key x r e
seen Right key (keyed red l k x r) e = seen_as Right red r k key x l e

pub nothing : (t : Keyed) → link_of t ≡ 0 → t ≡ nil
nothing nil e = refl
nothing (keyed red l k x r) e = absurd (omega arith)

pub plain-joined : (side : Side) (red : Bool) (t : Keyed) (k : ℕ) (x : Record) (other : Keyed) →
    plain (joined_keyed side red t k x other) ≡ sided side red (plain t) x (plain other)
plain-joined Left red t k x other = refl
plain-joined Right red t k x other = refl

pub link-joined : (side : Side) (red : Bool) (t : Keyed) (k : ℕ) (x : Record) (other : Keyed) →
    link_of (joined_keyed side red t k x other) ≡ suc k
link-joined Left red t k x other = refl
link-joined Right red t k x other = refl

pub uses-joined : (i : ℕ) (side : Side) (red : Bool) (t : Keyed) (k : ℕ) (x : Record)
    (other : Keyed) →
    uses i (joined_keyed side red t k x other) ≡ at_key i k + (uses i t + uses i other)
uses-joined i Left red t k x other = refl
uses-joined i Right red t k x other = omega arith

pub size-joined : (side : Side) (red : Bool) (t : Keyed) (k : ℕ) (x : Record) (other : Keyed) →
    size (joined_keyed side red t k x other) ≡ suc (size t + size other)
size-joined Left red t k x other = refl
size-joined Right red t k x other = omega arith

pub weight-sided : (side : Side) (red : Bool) (t : ColouredTree) (x : Record) (other : ColouredTree)
    →
    weight (sided side red t x other) ≡ suc (weight t + weight other)
weight-sided Left red t x other = refl
weight-sided Right red t x other = omega arith

-- its nodes stand at their keys where its own node and those of both subtrees do
pub record AreLinked (s : Slab Node) (side : Side) (red : Bool) (t : Keyed) (k : ℕ) (x : Record)
    (other : Keyed) : Type 0 where
  pub here : get s k ≡ Some (sided_node side red x (link_of t) (link_of other))
  pub near : IsLinked s t
  pub far : IsLinked s other

pub parted : (s : Slab Node) (side : Side) (red : Bool) (t : Keyed) (k : ℕ) (x : Record)
    (other : Keyed) → IsLinked s (joined_keyed side red t k x other) →
    AreLinked s side red t k x other
parted s Left red t k x other h = record { here = h.0; near = h.1; far = h.2 }
parted s Right red t k x other h = record { here = h.0; near = h.2; far = h.1 }

pub linked-joined : (s : Slab Node) (side : Side) (red : Bool) (t : Keyed) (k : ℕ) (x : Record)
    (other : Keyed) → AreLinked s side red t k x other →
    IsLinked s (joined_keyed side red t k x other)
linked-joined s Left red t k x other h = (h.here, h.near, h.far)
linked-joined s Right red t k x other h = (h.here, h.far, h.near)

-- what is read of its node, and what it is once it is written
pub child-sided : (side : Side) (red : Bool) (x : Record) (link other : ℕ) →
    child_at side (sided_node side red x link other) ≡ link
child-sided Left red x link other = refl
child-sided Right red x link other = refl

pub read-sided : (side : Side) (red : Bool) (x : Record) (link other : ℕ) (n : Node) →
    sided_node side red x link other ≡ n → (red ≡ n.red) × (x ≡ record_of n)
read-sided Left red x link other n e =
    (ap (λ (z : Node). z.red) e, ap (λ (z : Node). record_of z) e)
read-sided Right red x link other n e =
    (ap (λ (z : Node). z.red) e, ap (λ (z : Node). record_of z) e)

pub relinked : (side : Side) (red : Bool) (x : Record) (link new other : ℕ) →
    with_link side new (sided_node side red x link other) ≡ sided_node side red x new other
relinked Left red x link new other = refl
relinked Right red x link new other = refl

pub coloured-sided : (side : Side) (red new : Bool) (x : Record) (link other : ℕ) →
    record (sided_node side red x link other) { red = new } ≡ sided_node side new x link other
coloured-sided Left red new x link other = refl
coloured-sided Right red new x link other = refl

-- a turn to a side, where there is a child on the other side, and where there is none
pub plain-turned : (side : Side) (hue red child_red node_red : Bool) (a b other : Keyed)
    (ck nk : ℕ) (x y : Record) →
    turned side child_red node_red
    (plain (joined_keyed (opposite side) red (joined_keyed side hue b ck x a) nk y other))
    ≡ plain
    (joined_keyed side child_red (joined_keyed (opposite side) node_red b nk y other) ck x a)
plain-turned Left hue red child_red node_red a b other ck nk x y = refl
plain-turned Right hue red child_red node_red a b other ck nk x y = refl

pub plain-lone : (side : Side) (red child_red node_red : Bool) (k : ℕ) (y : Record)
    (other : Keyed) →
    turned side child_red node_red (plain (joined_keyed (opposite side) red nil k y other))
    ≡ plain (joined_keyed (opposite side) red nil k y other)
plain-lone Left red child_red node_red k y other = refl
plain-lone Right red child_red node_red k y other = refl

pub tip-turned : (side : Side) (child_red node_red : Bool)
    → turned side child_red node_red tip ≡ tip
tip-turned Left child_red node_red = refl
tip-turned Right child_red node_red = refl
