-- Blank nodes: one is planted, one comes back, one more is put into the slab.
use Rattle.rb_cursor.proofs.Words.{◌≡◌, ℕ, suc, ◌+◌, ◌-◌, ◌^◌, ◌<◌, ◌≤◌, Bool, true, false, List}
use Rattle.rb_cursor.proofs.Words.{[], ◌∷◌, length, if◌then◌else◌, Some, None, inl, inr, refl, sym}
use Rattle.rb_cursor.proofs.Words.{ap, subst, ◌∙◌, arith, ◌==◌, cases_eq, Slab, get, slab_len}
use Rattle.rb_cursor.proofs.Words.{with_value, Updates, Updates-with_value, Record, ColouredTree}
use Rattle.rb_cursor.proofs.Words.{tip, branch, Left, Node, Inside, Zipper, weight, HasOneSubtree}
use Rattle.rb_cursor.proofs.Words.{only_subtree, Keyed, nil, keyed, link_of, link_to, plain}
use Rattle.rb_cursor.proofs.Words.{plain_path, size, at_key, uses, path_uses, list_uses, node_with}
use Rattle.rb_cursor.proofs.Words.{node_of, IsLinked, with_last_link, IsPlace, nat_tests}
use Rattle.facts.proofs.Numbers.{if_suc}
use Rattle.rb_cursor.proofs.KeyedLemmas.{at_same, at_apart, at_most, linked_kept, path_kept}
use Rattle.rb_cursor.proofs.KeyedLemmas.{chain_kept, linked_beside, path_beside, chain_beside}
use Rattle.rb_cursor.proofs.KeyedLemmas.{linked_vacant, path_vacant, chain_vacant, same_len}
use Rattle.rb_cursor.proofs.FieldLemmas.{IsInside, show, FieldsHold, Moved, held, held_on}
use Rattle.rb_cursor.proofs.FieldLemmas.{other_hand, none_there, shut}
use Rattle.rb_cursor.proofs.TurnLemmas.{IsLoose, tightened}

-- a tree without nodes
nil_by : (t : Keyed) → plain t ≡ tip → t ≡ nil
nil_by nil e = refl
nil_by (keyed red l k x r) e = absurd (omega (arith, ap weight e))

-- the blank nodes that a link leads to
pub blanks_are : (key : ℕ) (blanks : List ℕ) → link_to blanks ≡ suc key →
    (rest : List ℕ) × (blanks ≡ key ∷ rest)
blanks_are key [] some = absurd (omega arith)
blanks_are key (k ∷ rest) some = (rest, ap (λ j. j ∷ rest) (omega arith))

chain_leads : (blanks : List ℕ) → 0 < length blanks → 0 < link_to blanks
chain_leads [] some = absurd (omega arith)
chain_leads (k ∷ ks) some = omega arith

pub blank_leads : (i : Inside) (now : Zipper) → IsInside i → show i ≡ now → 0 < now.room
    → 0 < i.blank
blank_leads i now f is some = grind (arith, nat_tests, held, chain_leads)

pub blank_there : (i : Inside) (key : ℕ) → IsInside i → i.blank ≡ suc key → get i.nodes key ≡ None
    → ⊥
blank_there i key f some none = grind (arith, nat_tests, blanks_are)

-- a blank node becomes a red leaf
pub plants : (i : Inside) (u : Slab Node) (now : Zipper) (key : ℕ) (row : Record) (n : Node) →
    IsInside i → show i ≡ now → now.tree ≡ tip → i.blank ≡ suc key → get i.nodes key ≡ Some n →
    u ≡ with_last_link (with_value i.nodes key (node_with true row 0 0)) i.steps i.depth i.blank →
    Moved (record i { nodes = u; tree = i.blank; blank = n.left; room = i.room - 1 })
    (record { tree = branch true tip row tip; path = now.path; room = now.room - 1 })
plants i u now key row n f shown leaf some found is =
    let h = held i now f shown in
    let none : f.hand ≡ nil = nil_by f.hand (sym (ap (λ (z : Zipper). z.tree) h.shows) ∙ leaf) in
    let b = blanks_are key f.blanks (sym f.blank_link ∙ some) in
    let path = f.path in
    let ks = b.0 in
    let g : FieldsHold i now nil path (key ∷ ks) =
    subst (λ (t : Keyed). FieldsHold i now t path (key ∷ ks)) none
    (subst (FieldsHold i now f.hand path) b.1 h) in
    let p = g.place in
    let s = i.nodes in
    let new : Node = node_with true row 0 0 in
    let hand : Keyed = keyed true nil key row nil in
    let old = p.chained.0 in
    let node : old.0 ≡ n = let there = old.1 in cc in
    let w = Updates-with_value s key new (rw found refl) in
    let z = with_value s key new in
    let once = at_same key in let most = p.apart key in
    let len = same_len s key n new found in
    let loose : IsLoose z hand 0 path ks = record {
      hand_linked = (w.changed, tt, tt);
      path_linked = path_beside s z key 0 path w.others (omega arith) p.path_linked;
      chained = chain_beside s z key ks w.others (omega arith) p.chained.1;
      apart = λ e. (let all = p.apart e in omega arith);
      counted = omega (arith, p.counted);
      fits = omega (arith, p.fits);
      small = omega (arith, p.small);
    } in
    let j : Inside = record i { nodes = u; tree = i.blank; blank = n.left; room = i.room - 1 } in
    let new' : Zipper =
    record { tree = branch true tip row tip; path = now.path; room = now.room - 1 } in
    shut j new' hand path ks (record {
      fields = record {
        place = tightened z u i.steps i.depth 0 i.blank hand path ks is some loose g.path_steps;
        tree_link = some;
        path_steps = g.path_steps;
        blank_link = ap (λ (m : Node). m.left) (sym node) ∙ old.2;
        room_is = omega (arith, g.room_is);
        few = g.few;
      };
      shows = ap (λ (q : Zipper). record {
        tree = branch true tip row tip;
        path = q.path;
        room = q.room - 1;
      }) g.shows;
    })

-- a node becomes blank, and its only subtree takes its place
pub thin_leads : (i : Inside) (now : Zipper) → IsInside i → show i ≡ now → HasOneSubtree now.tree
    → 0 < i.tree
thin_leads i now f is thin = elim (cases_eq i.tree 0) [
  | inl none ↦ absurd (subst HasOneSubtree (none_there i now f is none) thin)
  | inr some ↦ omega arith
]

pub room_fits : (i : Inside) (now : Zipper) → IsInside i → show i ≡ now → 0 < i.tree
    → i.room + 1 < 2 ^ 32
room_fits i now f is some = grind (arith, nat_tests, held_on)

-- with a subtree of the node, which both the tree and the links tell
record IsOnly (red : Bool) (l : Keyed) (x : Record) (r : Keyed) (only : Keyed) : Type 0 where
  pub tree : only_subtree (branch red (plain l) x (plain r)) ≡ plain only
  pub link : (if link_of l == 0 then link_of r else link_of l) ≡ link_of only
  pub linked : (s : Slab Node) → IsLinked s l → IsLinked s r → IsLinked s only
  pub size_is : size only ≡ size l + size r
  pub uses_is : (i : ℕ) → uses i only ≡ uses i l + uses i r

only_by : (red : Bool) (l : Keyed) (x : Record) (r : Keyed) →
    HasOneSubtree (branch red (plain l) x (plain r)) → (only : Keyed) × IsOnly red l x r only
only_by red nil x r thin = (
  r,
  record {
    tree = refl;
    link = refl;
    linked = λ s a b. b;
    size_is = omega arith;
    uses_is = λ i. omega arith;
  },
)
only_by red (keyed hue a k y b) x r thin =
    let none : r ≡ nil = nil_by r thin in
    let l : Keyed = keyed hue a k y b in (
      l,
      record {
        tree = refl;
        link = if_suc k (link_of r) (suc k);
        linked = λ s g h. g;
        size_is = (let e = ap size none in omega arith);
        uses_is = λ i. (let e = ap (uses i) none in omega arith);
      },
    )

pub takes : (i : Inside) (u : Slab Node) (now : Zipper) (key subtree : ℕ) (n : Node) → IsInside i →
    show i ≡ now → HasOneSubtree now.tree → i.tree ≡ suc key → get i.nodes key ≡ Some n →
    subtree ≡ (if n.left == 0 then n.right else n.left) →
    u ≡ with_last_link (with_value i.nodes key (record n { left = i.blank })) i.steps i.depth
    subtree →
    Moved (record i { nodes = u; tree = subtree; blank = i.tree; room = i.room + 1 })
    (record { tree = only_subtree now.tree; path = now.path; room = now.room + 1 })
takes i u now key subtree n f shown thin some found sub is =
    let v = held_on i now Left key f shown some in
    let g = v.held in
    let path = f.path in
    let blanks = f.blanks in
    let p = g.place in
    let s = i.nodes in
    let pair = only_by v.red v.near v.row v.far
    (subst (λ (z : Zipper). HasOneSubtree z.tree) g.shows thin) in
    let only = pair.0 in let o = pair.1 in
    let node : node_of v.red v.near v.row v.far ≡ n = let there = p.hand_linked.0 in cc in
    let link : subtree ≡ link_of only = sub
    ∙ sym (ap (λ (m : Node). if m.left == 0 then m.right else m.left) node) ∙ o.link in
    let new : Node = record n { left = i.blank } in
    let w = Updates-with_value s key new (rw found refl) in
    let z = with_value s key new in
    let once = at_same key in let most = p.apart key in
    let here = o.uses_is key in
    let len = same_len s key n new found in
    let loose : IsLoose z only (suc key) path (key ∷ blanks) = record {
      hand_linked =
          linked_beside s z key only w.others (omega arith)
          (o.linked s p.hand_linked.1 p.hand_linked.2);
      path_linked = path_beside s z key (suc key) path w.others (omega arith) p.path_linked;
      chained = (
        (new, w.changed, g.blank_link),
        chain_beside s z key blanks w.others (omega arith) p.chained,
      );
      apart = λ e. (let all = p.apart e in let there = o.uses_is e in omega arith);
      counted = omega (arith, p.counted, o.size_is);
      fits = omega (arith, p.fits);
      small = omega (arith, p.small);
    } in
    let j : Inside = record i { nodes = u; tree = subtree; blank = i.tree; room = i.room + 1 } in
    let new' : Zipper =
    record { tree = only_subtree now.tree; path = now.path; room = now.room + 1 } in
    shut j new' only path (key ∷ blanks) (record {
      fields = record {
        place = tightened z u i.steps i.depth (suc key) subtree only path (key ∷ blanks) is link
            loose g.path_steps;
        tree_link = link;
        path_steps = g.path_steps;
        blank_link = some;
        room_is = omega (arith, g.room_is);
        few = g.few;
      };
      shows = ap (λ (q : Zipper). record {
        tree = only_subtree q.tree;
        path = q.path;
        room = q.room + 1;
      }) g.shows
          ∙ ap
          (λ (t : ColouredTree). record { tree = t; path = plain_path path; room = i.room + 1 })
          o.tree;
    })

-- the slab has grown
pub grows : (i : Inside) (u : Slab Node) (now : Zipper) → IsInside i → show i ≡ now →
    u ≡ record i.nodes { capacity = u.capacity } → i.nodes.capacity ≤ u.capacity →
    Moved (record i { nodes = u }) now
grows i u now f shows is more =
    let h = held i now f shows in
    let p = h.place in
    let v : Slab Node = record i.nodes { capacity = u.capacity } in
    let place : IsPlace v f.hand f.path f.blanks = record {
      hand_linked = linked_kept i.nodes v f.hand (λ k used. refl) p.hand_linked;
      path_linked = path_kept i.nodes v (link_of f.hand) f.path (λ k used. refl) p.path_linked;
      chained = chain_kept i.nodes v f.blanks (λ k used. refl) p.chained;
      apart = p.apart;
      counted = p.counted;
      fits = omega (arith, p.fits);
      small = p.small;
    } in
    shut (record i { nodes = u }) now f.hand f.path f.blanks (record {
      fields = other_hand h.fields
          (subst (λ (z : Slab Node). IsPlace z f.hand f.path f.blanks) (sym is) place) h.tree_link;
      shows = h.shows;
    })

-- a blank node
abbrev pub blank_node : ℕ → Node
blank_node link =
    record {
      item = record { a = 0; b = 0; tag = 0 };
      node = 0;
      left = link;
      right = 0;
      red = false;
    }

-- one blank node more
pub blanked : (i : Inside) (v u : Slab Node) (now : Zipper) (key : ℕ) (n : Node) → IsInside i →
    show i ≡ now → v ≡ record i.nodes { capacity = v.capacity } → i.nodes.capacity ≤ v.capacity →
    slab_len v + 1 ≤ v.capacity → slab_len v + 1 < 2 ^ 32 → get v key ≡ None →
    Updates v u key (Some n) → n.left ≡ i.blank → slab_len u ≡ slab_len v + 1 →
    u.capacity ≡ v.capacity →
    Moved (record i { nodes = u; blank = key + 1; room = i.room + 1 })
    (record now { room = now.room + 1 })
blanked i v u now key n f shows grown more room small vacant w left len capacity =
    let g = grows i v now f shows grown more in
    let h = held (record i { nodes = v }) now g.is g.shows in
    let hand = g.is.hand in let path = g.is.path in let blanks = g.is.blanks in
    let p = h.place in
    let a = linked_vacant v key hand vacant p.hand_linked in
    let b = path_vacant v key (link_of hand) path vacant p.path_linked in
    let c = chain_vacant v key blanks vacant p.chained in
    let once : (e : ℕ) →
    uses e hand + (path_uses e path + (at_key e key + list_uses e blanks)) ≤ 1 = λ e.
    elim (cases_eq e key) [
      | inl same ↦
          let x = ap (λ (k : ℕ). uses k hand) same in
          let y = ap (λ (k : ℕ). path_uses k path) same in
          let z = ap (λ (k : ℕ). list_uses k blanks) same in let most = at_most e key in omega arith
      | inr differs ↦ let other = at_apart e key differs in let all = p.apart e in omega arith
    ] in
    let place : IsPlace u hand path (key ∷ blanks) = record {
      hand_linked = linked_beside v u key hand w.others a p.hand_linked;
      path_linked = path_beside v u key (link_of hand) path w.others b p.path_linked;
      chained = (
        (n, w.changed, left ∙ h.blank_link),
        chain_beside v u key blanks w.others c p.chained,
      );
      apart = once;
      counted = omega (arith, p.counted);
      fits = omega arith;
      small = omega arith;
    } in
    shut (record i { nodes = u; blank = key + 1; room = i.room + 1 })
    (record now { room = now.room + 1 }) hand path (key ∷ blanks) (record {
      fields = record {
        place = place;
        tree_link = h.tree_link;
        path_steps = h.path_steps;
        blank_link = omega arith;
        room_is = omega (arith, h.room_is);
        few = h.few;
      };
      shows = ap (λ (q : Zipper). record q { room = q.room + 1 }) h.shows;
    })
