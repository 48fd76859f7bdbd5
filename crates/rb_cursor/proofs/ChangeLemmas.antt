-- Going up from the tree in hand, and writes of the node in hand.
use Rattle.rb_cursor.proofs.Words.{◌≡◌, ℕ, suc, ◌-◌, ◌<◌, ◌≤◌, Bool, List, [], ◌∷◌, length, Some}
use Rattle.rb_cursor.proofs.Words.{None, inl, inr, refl, sym, ap, subst, ◌∙◌, arith, cases_eq}
use Rattle.rb_cursor.proofs.Words.{le-ltb, lt-ltb, Slab, get, with_value, Updates-with_value}
use Rattle.rb_cursor.proofs.Words.{Record, ColouredTree, branch, Node, Step, Side, Left, Right}
use Rattle.rb_cursor.proofs.Words.{Inside, Above, Zipper, sided, joined, plugged, closed_zipper}
use Rattle.rb_cursor.proofs.Words.{closed_to, IsNearest, Keyed, keyed, Level, link_of, plain}
use Rattle.rb_cursor.proofs.Words.{plain_level, plain_path, node_with, node_of, sided_node}
use Rattle.rb_cursor.proofs.Words.{record_of, step_at, IsPlace, tip, nat_tests}
use Rattle.rb_cursor.proofs.KeyedLemmas.{at_same, linked_beside, path_beside, chain_beside}
use Rattle.rb_cursor.proofs.KeyedLemmas.{steps_length, plain_length, same_len}
use Rattle.rb_cursor.proofs.SideLemmas.{read-sided, plain-joined}
use Rattle.rb_cursor.proofs.FieldLemmas.{IsInside, show, FieldsHold, Moved, held, held_on, shut}
use Rattle.rb_cursor.proofs.FieldLemmas.{none_there, other_hand, back, gone_back, without_step}

-- the node in hand is written anew, with the same subtrees
pub record Rewritten (i : Inside) (now : Zipper) (key : ℕ) (red : Bool) (row : Record) (n : Node) :
    Type 0 where
  pub left : ColouredTree
  pub right : ColouredTree
  pub was : now.tree ≡ branch n.red left (record_of n) right
  pub moved : Moved (record i { nodes = with_value i.nodes key (node_with red row n.left n.right) })
      (record now { tree = branch red left row right })

pub rewrites : (i : Inside) (now : Zipper) (key : ℕ) (red : Bool) (row : Record) (n : Node)
    → IsInside i →
    show i ≡ now → i.tree ≡ suc key → get i.nodes key ≡ Some n → Rewritten i now key red row n
rewrites i now key red row n f is some found =
    let v = held_on i now Left key f is some in
    let g = v.held in
    let p = g.place in
    let here = p.hand_linked.0 in
    let node : node_of v.red v.near v.row v.far ≡ n = cc in
    let s = i.nodes in
    let new : Node = node_of red v.near row v.far in
    let w = Updates-with_value s key new (rw here refl) in
    let u = with_value s key new in
    let once = at_same key in
    let most = p.apart key in
    let len = same_len s key (node_of v.red v.near v.row v.far) new here in
    let place : IsPlace u (keyed red v.near key row v.far) f.path f.blanks = record {
      hand_linked = (
        w.changed,
        linked_beside s u key v.near w.others (omega arith) p.hand_linked.1,
        linked_beside s u key v.far w.others (omega arith) p.hand_linked.2,
      );
      path_linked = path_beside s u key (suc key) f.path w.others (omega arith) p.path_linked;
      chained = chain_beside s u key f.blanks w.others (omega arith) p.chained;
      apart = p.apart;
      counted = omega (arith, p.counted);
      fits = omega (arith, p.fits);
      small = omega (arith, p.small);
    } in
    let nodes : u ≡ with_value s key (node_with red row n.left n.right) =
    ap (λ (z : Node). with_value s key (node_with red row z.left z.right)) node in
    let now' : Zipper = record now { tree = branch red (plain v.near) row (plain v.far) } in
    let j : Inside = record i { nodes = with_value s key (node_with red row n.left n.right) } in
    record {
      left = plain v.near;
      right = plain v.far;
      was = ap (λ (z : Zipper). z.tree) g.shows
          ∙ ap (λ (z : Node). branch z.red (plain v.near) (record_of z) (plain v.far)) node;
      moved = shut j now' (keyed red v.near key row v.far) f.path f.blanks (record {
        fields = other_hand g.fields
            (subst
            (λ (z : Slab Node). IsPlace z (keyed red v.near key row v.far) f.path f.blanks) nodes
            place) some;
        shows = ap (λ (z : Zipper). record z { tree = branch red (plain v.near) row (plain v.far) })
            g.shows;
      });
    }

-- the nearest node above
pub record LastIs (i : Inside) (now : Zipper) (hand : Keyed) (blanks : List ℕ) : Type 0 where
  pub level : Level
  pub rest : List Level
  pub held : FieldsHold i now hand (level ∷ rest) blanks

pub last_is : (i : Inside) (now : Zipper) (f : IsInside i) → show i ≡ now → 0 < i.depth →
    LastIs i now f.hand f.blanks
last_is i now f is some =
    elim f.path as (λ path. FieldsHold i now f.hand path f.blanks → LastIs i now f.hand f.blanks) [
      | [] ↦ λ h. let e = h.path_steps in absurd (omega arith)
      | a ∷ path ↦ λ h. record { level = a; rest = path; held = h }
    ] (held i now f is)

-- the last step, and the key of its node
last_step : (i : Inside) (now : Zipper) (hand : Keyed) (a : Level) (path : List Level)
    (blanks : List ℕ) → FieldsHold i now hand (a ∷ path) blanks →
    step_at i.steps (i.depth - 1) ≡ record { link = suc a.key; side = a.side }
last_step i now hand a path blanks h = grind (arith, nat_tests)

abbrev pub last : Inside → Step
last i = step_at i.steps (i.depth - 1)

pub last_leads : (i : Inside) (now : Zipper) → IsInside i → show i ≡ now → 0 < i.depth
    → 0 < (last i).link
last_leads i now f is some =
    let t = last_is i now f is some in
    let e = ap (λ (z : Step). z.link) (last_step i now f.hand t.level t.rest f.blanks t.held) in
    omega arith

pub last_there : (i : Inside) (now : Zipper) → IsInside i → show i ≡ now → 0 < i.depth
    → get i.nodes ((last i).link - 1) ≡ None → ⊥
last_there i now f is some none =
    let t = last_is i now f is some in
    let e = ap (λ (z : Step). z.link) (last_step i now f.hand t.level t.rest f.blanks t.held) in
    let same : t.level.key ≡ (last i).link - 1 = omega arith in
    let here = t.held.place.path_linked.0 in let there = ap (get i.nodes) same in
    cc

-- what is read of it
pub nearest_is : (i : Inside) (now : Zipper) (n : Node) → IsInside i → show i ≡ now → 0 < i.depth
    → get i.nodes ((last i).link - 1) ≡ Some n
    → IsNearest now.path (record { side = (last i).side; red = n.red; node = n.node })
nearest_is i now n f is some found =
    let t = last_is i now f is some in
    let a = t.level in
    let there = last_step i now f.hand a t.rest f.blanks t.held in
    let e = ap (λ (z : Step). z.link) there in
    let side : (last i).side ≡ a.side = ap (λ (z : Step). z.side) there in
    let same : a.key ≡ (last i).link - 1 = omega arith in
    let here = t.held.place.path_linked.0 in let there = ap (get i.nodes) same in
    let node : sided_node a.side a.red a.row (link_of f.hand) (link_of a.other) ≡ n = cc in
    let parts = read-sided a.side a.red a.row (link_of f.hand) (link_of a.other) n node in
    record {
      row = a.row;
      other = plain a.other;
      rest = plain_path t.rest;
      node = sym (ap (λ (z : Record). z.node) parts.1);
      was = ap (λ (z : Zipper). z.path) t.held.shows
          ∙ ap (λ (z : Side). record {
            side = z;
            red = a.red;
            row = a.row;
            other = plain a.other;
          } ∷ plain_path t.rest) (sym side)
          ∙ ap (λ (z : Bool). record {
            side = (last i).side;
            red = z;
            row = a.row;
            other = plain a.other;
          } ∷ plain_path t.rest) parts.0;
    }

pub no_path : (i : Inside) (now : Zipper) → IsInside i → show i ≡ now → i.depth ≡ 0 → now.path ≡ []
no_path i now f is none =
    elim f.path as (λ path. FieldsHold i now f.hand path f.blanks → now.path ≡ []) [
      | [] ↦ λ h. ap (λ (z : Zipper). z.path) h.shows
      | a ∷ path ↦ λ h. let e = h.path_steps.0 in absurd (omega arith)
    ] (held i now f is)

-- one step up, in a colour
repainted : (side : Side) (hue red : Bool) (t : ColouredTree) (x : Record) (o : ColouredTree)
    (hue' : Bool)
    (l : ColouredTree) (y : Record) (r : ColouredTree) → sided side hue t x o ≡ branch hue' l y r →
    branch red l y r ≡ sided side red t x o
repainted Left hue red t x o hue' l y r e = cc
repainted Right hue red t x o hue' l y r e = cc

pub closes : (i : Inside) (now : Zipper) (red : Bool) (n : Node) → IsInside i → show i ≡ now
    → 0 < i.depth → get i.nodes ((last i).link - 1) ≡ Some n →
    Moved (record i {
      nodes = with_value i.nodes ((last i).link - 1) (record n { red = red });
      tree = (last i).link;
      depth = i.depth - 1;
    }) (closed_zipper red now.tree now.path now.room)
closes i now red n f is some found =
    let t = last_is i now f is some in
    let a = t.level in
    let step = last i in
    let key = step.link - 1 in
    let e = ap (λ (z : Step). z.link) (last_step i now f.hand a t.rest f.blanks t.held) in
    let link : step.link ≡ suc key = omega arith in
    let g = gone_back i now f.hand a t.rest f.blanks step.link t.held e in
    let mid : Zipper =
    record { tree = plain (back a f.hand); path = plain_path t.rest; room = i.room } in
    let m = shut (without_step i step.link) mid (back a f.hand) t.rest f.blanks g in
    let r =
    rewrites (without_step i step.link) mid key red (record_of n) n m.is m.shows link found in
    let tree = repainted a.side a.red red (plain f.hand) a.row (plain a.other) n.red r.left
    (record_of n) r.right (sym (plain-joined a.side a.red f.hand a.key a.row a.other) ∙ r.was) in
    record {
      is = r.moved.is;
      shows = r.moved.shows
          ∙ ap (λ (z : ColouredTree). record { tree = z; path = plain_path t.rest; room = i.room })
          tree
          ∙ sym (ap (λ (z : Zipper). closed_zipper red z.tree z.path z.room) t.held.shows);
    }

pub not_closed : (red : Bool) (now : Zipper) → now.path ≡ [] →
    now ≡ closed_zipper red now.tree now.path now.room
not_closed red now e = grind (arith, nat_tests)

-- up to some node
pub stays_closed : (d : ℕ) (t : ColouredTree) (p : List Above) (room : ℕ) → length p ≤ d →
    closed_to d t p room ≡ record { tree = t; path = p; room = room }
stays_closed d t [] room h = refl
stays_closed d t (a ∷ p) room h = grind (arith, nat_tests, lt-ltb)

goes_up : (d : ℕ) (t : ColouredTree) (a : Above) (p : List Above) (room : ℕ) → d ≤ length p →
    closed_to d t (a ∷ p) room ≡ closed_to d (joined a a.red t) p room
goes_up d t a p room h = grind (arith, nat_tests, le-ltb)

pub closed_to_none : (t : ColouredTree) (p : List Above) (room : ℕ) →
    closed_to 0 t p room ≡ record { tree = plugged p t; path = []; room = room }
closed_to_none t [] room = refl
closed_to_none t (a ∷ p) room = goes_up 0 t a p room (omega arith)
    ∙ closed_to_none (joined a a.red t) p room

closes_to_by : (i : Inside) (now : Zipper) (hand : Keyed) (path : List Level) (blanks : List ℕ)
    (d : ℕ) → FieldsHold i now hand path blanks → d < length path →
    Moved (record i { tree = (step_at i.steps d).link; depth = d })
    (closed_to d (plain hand) (plain_path path) i.room)
closes_to_by i now hand [] blanks d h some = absurd (omega arith)
closes_to_by i now hand (a ∷ path) blanks d h some =
    let long = plain_length path in
    let t : ColouredTree = plain (back a hand) in
    let up : closed_to d (plain hand) (plain_path (a ∷ path)) i.room ≡ closed_to d t
    (plain_path path) i.room =
    goes_up d (plain hand) (plain_level a) (plain_path path) i.room (omega arith)
    ∙ sym (ap (λ (z : ColouredTree). closed_to d z (plain_path path) i.room)
    (plain-joined a.side a.red hand a.key a.row a.other)) in
    let j : Inside = record i { tree = (step_at i.steps d).link; depth = d } in
    let mid : Zipper = record { tree = t; path = plain_path path; room = i.room } in
    let there : Moved j (closed_to d t (plain_path path) i.room) = elim (cases_eq d (length path)) [
      | inl same ↦
          let link : (step_at i.steps d).link ≡ suc a.key =
          ap (λ (k : ℕ). (step_at i.steps k).link) same
          ∙ ap (λ (z : Step). z.link) h.path_steps.1 in
          let g = gone_back i now hand a path blanks (step_at i.steps d).link h link in
          let depth : i.depth - 1 ≡ d = omega (arith, h.path_steps.0) in
          let m : Moved (record i { tree = (step_at i.steps d).link; depth = i.depth - 1 }) mid =
          shut (without_step i (step_at i.steps d).link) mid (back a hand) path blanks g in
          let e = stays_closed d t (plain_path path) i.room (omega arith) in
          subst (λ (z : Zipper). Moved j z) (sym e)
          (subst (λ (z : ℕ). Moved (record i { tree = (step_at i.steps d).link; depth = z }) mid)
          depth m)
      | inr differs ↦
          closes_to_by (without_step i (suc a.key)) mid (back a hand) path blanks d
          (gone_back i now hand a path blanks (suc a.key) h refl) (omega arith)
    ] in
    subst (λ (z : Zipper). Moved j z) (sym up) there

pub closes_to : (i : Inside) (now : Zipper) (d : ℕ) (step : Step) → IsInside i → show i ≡ now →
    d < i.depth → step_at i.steps d ≡ step →
    Moved (record i { tree = step.link; depth = d }) (closed_to d now.tree now.path now.room)
closes_to i now d step f is some at =
    let h = held i now f is in
    let m = closes_to_by i now f.hand f.path f.blanks d h
    (omega (arith, steps_length i.steps i.depth f.path h.path_steps)) in
    let e : closed_to d (plain f.hand) (plain_path f.path) i.room ≡ closed_to d now.tree now.path
    now.room = sym (ap (λ (z : Zipper). closed_to d z.tree z.path z.room) h.shows) in
    subst (λ (x : Step). Moved (record i { tree = x.link; depth = d })
    (closed_to d now.tree now.path now.room)) at
    (subst (λ (z : Zipper). Moved (record i { tree = (step_at i.steps d).link; depth = d }) z) e m)

pub not_closed_to : (i : Inside) (now : Zipper) (d : ℕ) → IsInside i → show i ≡ now → i.depth ≤ d →
    now ≡ closed_to d now.tree now.path now.room
not_closed_to i now d f is h =
    grind (arith, nat_tests, held, stays_closed, steps_length, plain_length)

-- what changes no empty tree changes nothing where there is no node in hand
pub unchanged : (change : ColouredTree → ColouredTree) → change tip ≡ tip → (i : Inside)
    (now : Zipper) → IsInside i → show i ≡ now → i.tree ≡ 0
    → now ≡ record now { tree = change now.tree }
unchanged change none i now f is empty =
    let e = none_there i now f is empty in
    ap (λ (t : ColouredTree). record now { tree = t }) (e ∙ sym none ∙ sym (ap change e))
