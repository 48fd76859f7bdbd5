-- Reading a tree of records.
use Rattle.rb_cursor.proofs.Words.{◌≡◌, ℕ, suc, ◌<◌, Some, sym, ap, subst, ◌∙◌, arith, Slab, get}
use Rattle.rb_cursor.proofs.Words.{ColouredTree, tip, branch, Zipper, weight, Left, Node, Inside}
use Rattle.rb_cursor.proofs.Words.{keyed, plain, size, node_of, record_of, IsLinked, tree_from}
use Rattle.rb_cursor.specs.Links.{IsLink, read}
use Rattle.rb_cursor.proofs.KeyedLemmas.{tree_is}
use Rattle.rb_cursor.proofs.SideLemmas.{seen, nothing}
use Rattle.rb_cursor.proofs.FieldLemmas.{IsInside, show, held}

pub read_is : (s : Slab Node) (link : ℕ) (f : IsLink s link) → read s link ≡ plain f.tree
unfolding read
read_is s link f = ap (tree_from s s.capacity) f.link_is
    ∙ tree_is s f.tree s.capacity f.linked f.fits

pub record ReadOpened (s : Slab Node) (n : Node) (now : ColouredTree) : Type 0 where
  pub left : IsLink s n.left
  pub right : IsLink s n.right
  pub was : now ≡ branch n.red (read s n.left) (record_of n) (read s n.right)
  pub left_less : weight (read s n.left) < weight now
  pub right_less : weight (read s n.right) < weight now

pub opens_read : (s : Slab Node) (link key : ℕ) (n : Node) (now : ColouredTree)
    → (f : IsLink s link) →
    read s link ≡ now → link ≡ suc key → get s key ≡ Some n → ReadOpened s n now
opens_read s link key n now f shown some found =
    let v = seen Left key f.tree (sym f.link_is ∙ some) in
    let h = subst (IsLinked s) v.is f.linked in
    let e = ap size v.is in
    let is : now ≡ plain (keyed v.red v.near key v.row v.far) =
    sym shown ∙ read_is s link f ∙ ap plain v.is in
    let node : node_of v.red v.near v.row v.far ≡ n = let here = h.0 in cc in
    let left : IsLink s n.left = record {
      tree = v.near;
      link_is = ap (λ (z : Node). z.left) (sym node);
      linked = h.1;
      fits = omega (arith, e, f.fits);
    } in
    let right : IsLink s n.right = record {
      tree = v.far;
      link_is = ap (λ (z : Node). z.right) (sym node);
      linked = h.2;
      fits = omega (arith, e, f.fits);
    } in
    let was : now ≡ branch n.red (read s n.left) (record_of n) (read s n.right) =
    is ∙ ap (λ (z : Node). branch z.red (plain v.near) (record_of z) (plain v.far)) node
    ∙ sym (ap (λ (z : ColouredTree). branch n.red z (record_of n) (plain v.far))
    (read_is s n.left left))
    ∙ sym (ap (λ (z : ColouredTree). branch n.red (read s n.left) (record_of n) z)
    (read_is s n.right right)) in
    let heavy = ap weight was in
    record {
      left = left;
      right = right;
      was = was;
      left_less = omega arith;
      right_less = omega arith;
    }

pub empty_read : (s : Slab Node) (link : ℕ) (now : ColouredTree) → (f : IsLink s link) →
    read s link ≡ now → link ≡ 0 → now ≡ tip
empty_read s link now f is none =
    sym is ∙ read_is s link f ∙ ap plain (nothing f.tree (sym f.link_is ∙ none))

pub hand_read : (i : Inside) → IsInside i → IsLink i.nodes i.tree
hand_read i f =
    record {
      tree = f.hand;
      link_is = f.tree_link;
      linked = f.place.hand_linked;
      fits = omega (arith, f.place.counted, f.place.fits);
    }

pub hand_is : (i : Inside) (now : Zipper) → IsInside i → show i ≡ now
    → read i.nodes i.tree ≡ now.tree
unfolding hand_read
hand_is i now f is = read_is i.nodes i.tree (hand_read i f)
    ∙ sym (ap (λ (z : Zipper). z.tree) (held i now f is).shows)
