-- Going down by fields alone: what a seek has come to leads to the same place as where it began.
use Rattle.rb_cursor.proofs.Words.{◌≡◌, ℕ, suc, ◌+◌, ◌<◌, ◌≤◌, false, true, Bool, List, [], ◌∷◌}
use Rattle.rb_cursor.proofs.Words.{length, Some, refl, sym, ap, subst, ◌∙◌, arith, length-set, get}
use Rattle.rb_cursor.proofs.Words.{Record, Ordering, Less, Equal, Greater, ColouredTree, tip}
use Rattle.rb_cursor.proofs.Words.{branch, shape, depth, Node, Step, Side, Left, Right, Inside}
use Rattle.rb_cursor.proofs.Words.{Above, past_left, past_right, way_by, apart_lies, plugged_to}
use Rattle.rb_cursor.proofs.Words.{place_at, way_at, sided, Zipper, weight, record_of, child_at}
use Rattle.rb_cursor.proofs.Words.{side_by, is_fork, meets_on_the_way, Order, nat_tests}
use Rattle.std.specs.Ordering.{is_eq, is_lt}
use Rattle.order_laws.specs.declared.items.Item.{Item}
use Rattle.rb_cursor.proofs.ChangeLemmas.{rewrites}
use Rattle.rb_cursor.proofs.FieldLemmas.{same_value, written_back, IsInside, show, with_step}
use Rattle.rb_cursor.proofs.FieldLemmas.{depth_is, opened, none_there}

-- the way of what is sought: the place where it ends, and the path up from there
abbrev pub seen_way : (Record → Ordering) → ColouredTree → List Above → ColouredTree × List Above
seen_way seen t p = (place_at seen t, way_at seen t p)

-- the fields lead to it where this zipper leads
pub record SeekState (seen : Record → Ordering) (i : Inside) (start : Zipper) : Type 0 where
  pub is : IsInside i
  pub way : seen_way seen (show i).tree (show i).path ≡ seen_way seen start.tree start.path
  pub fits : depth (shape (show i).tree) + length (show i).path ≤ 64
  pub room : (show i).room ≡ start.room
  pub long : length i.steps ≡ 64

-- after a step down
pub record Went (seen : Record → Ordering) (i now : Inside) (start : Zipper) : Type 0 where
  pub sought : SeekState seen now start
  pub less : weight (show now).tree < weight (show i).tree

-- where the way goes on
abbrev towards : Side → Ordering
towards Left = Less
towards Right = Greater

towards_by : (o : Ordering) → is_eq o ≡ false → o ≡ towards (side_by (is_lt o))
towards_by Less other = refl
towards_by Equal other = absurd (cc)
towards_by Greater other = refl

depth_sided : (side : Side) (red : Bool) (t : ColouredTree) (x : Record) (other : ColouredTree) →
    depth (shape t) < depth (shape (sided side red t x other))
depth_sided Left red t x other = omega arith
depth_sided Right red t x other = omega arith

module _ (seen : Record → Ordering) where
  turn : (side : Side) (red : Bool) (t other : ColouredTree) (y : Record) (p : List Above) →
      seen y ≡ towards side → seen_way seen (sided side red t y other) p
      ≡ seen_way seen t (record { side = side; red = red; row = y; other = other } ∷ p)
  turn Left red t other y p e = rw e refl
  turn Right red t other y p e = rw e refl

  stays : (t : ColouredTree) (p : List Above) (red : Bool) (l : ColouredTree) (y : Record)
      (r : ColouredTree) → t ≡ branch red l y r → seen y ≡ Equal → seen_way seen t p ≡ (t, p)
  stays t p red l y r is same = rw is (rw same refl)

  ends : (t : ColouredTree) (p : List Above) → t ≡ tip → seen_way seen t p ≡ (t, p)
  ends t p is = rw is refl

module _ {seen : Record → Ordering} {i : Inside} {start : Zipper} (s : SeekState seen i start) where
  -- no node is in hand
  pub seen_misses : i.tree ≡ 0
      → ((show i).tree, (show i).path) ≡ seen_way seen start.tree start.path
  seen_misses none =
      sym (ends seen (show i).tree (show i).path (none_there i (show i) s.is refl none)) ∙ s.way

  module _ {key : ℕ} {n : Node} (found : get i.nodes key ≡ Some n) (some : i.tree ≡ suc key) where
    -- one more step fits
    pub step_fits : i.depth < 64
    step_fits =
        let r = rewrites i (show i) key n.red (record_of n) n s.is refl some found in
        omega
        (arith, ap (λ (t : ColouredTree). depth (shape t)) r.was, depth_is i (show i) s.is refl)

    -- the node that was read stands there again
    pub seen_ends : seen (record_of n) ≡ Equal →
        ((show (written_back i key n)).tree, (show (written_back i key n)).path)
        ≡ seen_way seen start.tree start.path
    seen_ends same =
        let r = rewrites i (show i) key n.red (record_of n) n s.is refl some found in
        ap (λ z. ((show (record i { nodes = z })).tree, (show (record i { nodes = z })).path))
        (same_value i.nodes key n found)
        ∙ sym (stays seen (show i).tree (show i).path n.red r.left (record_of n) r.right r.was same)
        ∙ s.way

    goes : (side : Side) → seen (record_of n) ≡ towards side →
        Went seen i (with_step i side (child_at side n)) start
    goes side e =
        let o = opened i (show i) side key n s.is refl some found step_fits
        (omega (arith, s.long, step_fits)) in
        let t = (show (with_step i side (child_at side n))).tree in
        record {
          sought = record {
            is = o.is;
            way = ap (λ p. seen_way seen t p) o.opens.path
                ∙ sym (turn seen side n.red t o.opens.other o.opens.row (show i).path
                (ap seen o.row_is ∙ e))
                ∙ ap (λ z. seen_way seen z (show i).path) (sym o.opens.was) ∙ s.way;
            fits = omega (
              arith,
              ap (λ z. depth (shape z)) o.opens.was,
              depth_sided side n.red t o.opens.row o.opens.other,
              ap (λ p. length p) o.opens.path,
            );
            room = o.opens.room ∙ s.room;
            long = length-set i.steps i.depth (record { link = i.tree; side = side }) ∙ s.long;
          };
          less = o.opens.less;
        }

    -- a step down, where the node was written back and the step was written
    pub seen_goes : (side : Side) (link : ℕ) (steps : List Step)
        → is_eq (seen (record_of n)) ≡ false →
        side ≡ side_by (is_lt (seen (record_of n))) → link ≡ child_at side n →
        steps ≡ (with_step i side link).steps →
        Went seen i (record (with_step (written_back i key n) side link) { steps = steps }) start
    seen_goes side link steps other here there written =
        let same : record (with_step (written_back i key n) side link) { steps = steps }
        ≡ with_step i side (child_at side n) = cc (same_value i.nodes key n found) in
        subst (λ z. Went seen i z start) (sym same)
        (goes side (towards_by (seen (record_of n)) other ∙ ap towards (sym here)))

-- an item that meets none on the way goes the way of any item
module _ {K : Type 0} (o : Order K) (x : Item) where
  abbrev pub Apart : ColouredTree → List Above → Type 0
  Apart t p =
      (meets_on_the_way o x [] t ≡ is_fork (place_at (apart_lies o x) t))
      × (meets_on_the_way o x [] t ≡ false → way_at (apart_lies o x) t p ≡ way_by o.less x t p)

  pub apart_by : (t : ColouredTree) (p : List Above) → Apart t p
  apart_by tip p = (refl, λ e. refl)
  apart_by (branch red l y r) p =
      grind (
        arith,
        nat_tests,
        apart_by l (past_left red y r ∷ p),
        apart_by r (past_right red l y ∷ p),
      )

pub ruleset apart_ways = (apart_by, plugged_to)
