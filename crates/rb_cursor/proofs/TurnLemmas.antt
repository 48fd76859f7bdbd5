-- Changes that put another node at the top of the tree in hand: the link of the nearest node above
-- follows.
use Rattle.rb_cursor.proofs.Words.{◌≡◌, ◌≢◌, ℕ, suc, ◌+◌, ◌^◌, ◌<◌, ◌≤◌, Bool, List, [], ◌∷◌}
use Rattle.rb_cursor.proofs.Words.{length, Some, refl, sym, ap, subst, ◌∙◌, arith, Slab, get}
use Rattle.rb_cursor.proofs.Words.{slab_len, with_value, Updates-with_value, Record, ColouredTree}
use Rattle.rb_cursor.proofs.Words.{tip, Node, Step, Side, Inside, Zipper, Keyed, nil, Level}
use Rattle.rb_cursor.proofs.Words.{link_of, size, path_size, at_key, uses, path_uses, list_uses}
use Rattle.rb_cursor.proofs.Words.{sided_node, plain, plain_path, IsLinked, IsPath, IsChain}
use Rattle.rb_cursor.proofs.Words.{opposite, turned, child_at, with_link, with_node_link}
use Rattle.rb_cursor.proofs.Words.{with_step_link, step_at, LastLeadsOn, with_last_link, IsPlace}
use Rattle.rb_cursor.proofs.Words.{AreSteps}
use Rattle.rb_cursor.proofs.KeyedLemmas.{at_same, linked_kept, chain_kept, linked_beside}
use Rattle.rb_cursor.proofs.KeyedLemmas.{path_beside, chain_beside, same_len}
use Rattle.rb_cursor.proofs.SideLemmas.{joined_keyed, seen, nothing, parted, linked-joined}
use Rattle.rb_cursor.proofs.SideLemmas.{link-joined, uses-joined, size-joined, child-sided}
use Rattle.rb_cursor.proofs.SideLemmas.{relinked, coloured-sided, plain-turned, plain-lone}
use Rattle.rb_cursor.proofs.SideLemmas.{tip-turned}
use Rattle.rb_cursor.proofs.FieldLemmas.{IsInside, show, FieldsHold, Moved, shut, held_on}
use Rattle.rb_cursor.proofs.FieldLemmas.{other_hand}

-- all but the link that leads to the tree in hand, which leads elsewhere
pub record IsLoose (s : Slab Node) (hand : Keyed) (link : ℕ) (path : List Level) (blanks : List ℕ) :
    Type 0 where
  pub hand_linked : IsLinked s hand
  pub path_linked : IsPath s link path
  pub chained : IsChain s blanks
  pub apart : (i : ℕ) → uses i hand + (path_uses i path + list_uses i blanks) ≤ 1
  pub counted : size hand + (path_size path + length blanks) ≡ slab_len s
  pub fits : slab_len s ≤ s.capacity
  pub small : slab_len s < 2 ^ 32

-- a slab in which the nearest node of a path leads elsewhere
record Leads (s u : Slab Node) (path : List Level) (link : ℕ) : Type 0 where
  pub path_linked : IsPath u link path
  pub len : slab_len u ≡ slab_len s
  pub capacity : u.capacity ≡ s.capacity
  pub beside : (k : ℕ) → path_uses k path ≡ 0 → get u k ≡ get s k

leads : (s u : Slab Node) (steps : List Step) (depth old new : ℕ) (path : List Level) →
    u ≡ with_last_link s steps depth new → IsPath s old path → AreSteps steps depth path →
    ((k : ℕ) → path_uses k path ≤ 1) → Leads s u path new
leads s u steps depth old new [] is h a most =
    let e : u ≡ s = is ∙ ap (λ (d : ℕ). with_last_link s steps d new) a in
    record {
      path_linked = tt;
      len = ap slab_len e;
      capacity = ap (λ (z : Slab Node). z.capacity) e;
      beside = λ k none. ap (λ (z : Slab Node). get z k) e;
    }
leads s u steps depth old new (a ∷ path) is h at most =
    let before : Node = sided_node a.side a.red a.row old (link_of a.other) in
    let after : Node = with_link a.side new before in
    let v = with_value s a.key after in
    let e : u ≡ v =
    is ∙ ap (λ (d : ℕ). with_last_link s steps d new) at.0
    ∙ ap (λ (x : Step). with_step_link s x new) at.1
    ∙ ap (with_node_link s a.key a.side new) h.0 in
    let w = Updates-with_value s a.key after (rw h.0 refl) in
    let once = at_same a.key in
    let one = most a.key in
    let there : Leads s v (a ∷ path) new = record {
      path_linked = (
        w.changed ∙ ap (λ (n : Node). Some n)
            (relinked a.side a.red a.row old new (link_of a.other)),
        linked_beside s v a.key a.other w.others (omega arith) h.1,
        path_beside s v a.key (suc a.key) path w.others (omega arith) h.2,
      );
      len = same_len s a.key before after h.0;
      capacity = refl;
      beside = λ k none. w.others k (λ same. let z = at_same a.key in
          let y = ap (λ (j : ℕ). at_key j a.key) same in omega arith);
    } in
    subst (λ (z : Slab Node). Leads s z (a ∷ path) new) (sym e) there

-- the link follows
pub tightened : (s u : Slab Node) (steps : List Step) (depth old new : ℕ) (hand : Keyed)
    (path : List Level) (blanks : List ℕ) → u ≡ with_last_link s steps depth new
    → new ≡ link_of hand →
    IsLoose s hand old path blanks → AreSteps steps depth path → IsPlace u hand path blanks
tightened s u steps depth old new hand path blanks is link p a =
    let l = leads s u steps depth old new path is p.path_linked a (λ k. (let all = p.apart k in
    omega arith)) in
    record {
      hand_linked =
          linked_kept s u hand (λ i used. l.beside i (let all = p.apart i in omega arith))
          p.hand_linked;
      path_linked = subst (λ (z : ℕ). IsPath u z path) link l.path_linked;
      chained = chain_kept s u blanks (λ i used. l.beside i (let all = p.apart i in omega arith))
          p.chained;
      apart = p.apart;
      counted = p.counted ∙ sym l.len;
      fits = (let a = l.len in let b = l.capacity in let c = p.fits in omega arith);
      small = (let a = l.len in let c = p.small in omega arith);
    }

-- the fields after a turn
abbrev pub with_turn : Inside → Slab Node → ℕ → Inside
with_turn i u link = record i { nodes = u; tree = link }

pub leads_on : (i : Inside) → IsInside i → LastLeadsOn i.steps i.depth
leads_on i f =
    elim f.path as (λ path. AreSteps i.steps i.depth path → LastLeadsOn i.steps i.depth) [
      | [] ↦ λ a. subst (LastLeadsOn i.steps) (sym a) tt
      | l ∷ path ↦ λ a.
          let some : 0 < (step_at i.steps (length path)).link =
          omega (arith, ap (λ (z : Step). z.link) a.1) in
          subst (LastLeadsOn i.steps) (sym a.0) some
    ] f.path_steps

-- the two nodes as they are written
abbrev pub below_turned : Inside → Side → Bool → Node → Node
below_turned i side child_red lower = record (with_link side i.tree lower) { red = child_red }

abbrev pub above_turned : Side → Bool → Node → Node → Node
above_turned side node_red lower upper =
    record (with_link (opposite side) (child_at side lower) upper) { red = node_red }

-- what a turn to a side reads and writes, and the slab that it leaves
pub record TurnsTo (i : Inside) (side : Side) (u : Slab Node) (nk ck link : ℕ)
    (child_red node_red : Bool) (n lower low upper high : Node) : Type 0 where
  pub tree : i.tree ≡ suc nk
  pub here : get i.nodes nk ≡ Some n
  pub child : link ≡ child_at (opposite side) n
  pub some : link ≡ suc ck
  pub there : get i.nodes ck ≡ Some lower
  pub low_is : low ≡ below_turned i side child_red lower
  pub again : get (with_value i.nodes ck low) nk ≡ Some upper
  pub high_is : high ≡ above_turned side node_red lower upper
  pub leaves : u
      ≡ with_last_link (with_value (with_value i.nodes ck low) nk high) i.steps i.depth link

-- what it shows then
abbrev pub turned_to : Zipper → Side → Bool → Bool → Zipper
turned_to now side child_red node_red =
    record now { tree = turned side child_red node_red now.tree }

turn_at : (i : Inside) (side : Side) (u : Slab Node) (now : Zipper) (hue red : Bool)
    (a b other : Keyed) (x y : Record) (path : List Level) (blanks : List ℕ) (nk ck link : ℕ)
    (child_red node_red : Bool) (n lower low upper high : Node) →
    TurnsTo i side u nk ck link child_red node_red n lower low upper high →
    FieldsHold i now (joined_keyed (opposite side) red (joined_keyed side hue b ck x a) nk y other)
    path blanks → Moved (with_turn i u link) (turned_to now side child_red node_red)
turn_at i side u now hue red a b other x y path blanks nk ck link child_red node_red n lower low
    upper high t h =
    let p = h.place in
    let s = i.nodes in
    let beyond = opposite side in
    let inner : Keyed = joined_keyed side hue b ck x a in
    let outer = parted s beyond red inner nk y other p.hand_linked in
    let inside = parted s side hue b ck x a outer.near in
    let old_low : Node = sided_node side hue x (link_of b) (link_of a) in
    let old_high : Node = sided_node beyond red y (link_of inner) (link_of other) in
    let new_low : Node = sided_node side child_red x (suc nk) (link_of a) in
    let new_high : Node = sided_node beyond node_red y (link_of b) (link_of other) in
    let lower_is : old_low ≡ lower = let here = inside.here in let there = t.there in cc in
    let low_new : low ≡ new_low =
    t.low_is ∙ ap (below_turned i side child_red) (sym lower_is)
    ∙ ap (λ (m : Node). record m { red = child_red })
    (relinked side hue x (link_of b) i.tree (link_of a))
    ∙ coloured-sided side hue child_red x i.tree (link_of a)
    ∙ ap (λ (l : ℕ). sided_node side child_red x l (link_of a)) t.tree in
    let v = with_value s ck new_low in
    let z = with_value v nk new_high in
    let one = at_same nk in
    let two = at_same ck in
    let most = p.apart nk in
    let most' = p.apart ck in
    let used = uses-joined nk beyond red inner nk y other in
    let used' = uses-joined ck beyond red inner nk y other in
    let uses_in = uses-joined nk side hue b ck x a in
    let uses_in' = uses-joined ck side hue b ck x a in
    let ne : nk ≢ ck = λ same. (let e = ap (λ (j : ℕ). at_key j ck) same in omega arith) in
    let w = Updates-with_value s ck new_low (rw inside.here refl) in
    let high_there : get v nk ≡ Some old_high = w.others nk ne ∙ outer.here in
    let again : get v nk ≡ Some upper =
    ap (λ (m : Node). get (with_value s ck m) nk) (sym low_new) ∙ t.again in
    let upper_is : old_high ≡ upper = cc in
    let high_new : high ≡ new_high =
    t.high_is ∙ ap (λ (m : Node). above_turned side node_red m upper) (sym lower_is)
    ∙ ap (above_turned side node_red old_low) (sym upper_is)
    ∙ ap (λ (l : ℕ). record (with_link beyond l old_high) { red = node_red })
    (child-sided side hue x (link_of b) (link_of a))
    ∙ ap (λ (m : Node). record m { red = node_red })
    (relinked beyond red y (link_of inner) (link_of b) (link_of other))
    ∙ coloured-sided beyond red node_red y (link_of b) (link_of other) in
    let w' = Updates-with_value v nk new_high (rw high_there refl) in
    let beside : (q : Keyed) → uses ck q ≡ 0 → uses nk q ≡ 0 → IsLinked s q → IsLinked z q =
    λ q c d g. linked_beside v z nk q w'.others d (linked_beside s v ck q w.others c g) in
    let len : slab_len z ≡ slab_len s = same_len v nk old_high new_high high_there
    ∙ same_len s ck old_low new_low inside.here in
    let sunk : Keyed = joined_keyed beyond node_red b nk y other in
    let hand : Keyed = joined_keyed side child_red sunk ck x a in
    let loose : IsLoose z hand (suc nk) path blanks = record {
      hand_linked = linked-joined z side child_red sunk ck x a (record {
        here = w'.others ck (λ e. ne (sym e)) ∙ w.changed
            ∙ ap (λ (l : ℕ). Some (sided_node side child_red x l (link_of a)))
            (sym (link-joined beyond node_red b nk y other));
        near = linked-joined z beyond node_red b nk y other (record {
          here = w'.changed;
          near = beside b (omega arith) (omega arith) inside.near;
          far = beside other (omega arith) (omega arith) outer.far;
        });
        far = beside a (omega arith) (omega arith) inside.far;
      });
      path_linked =
          path_beside v z nk (suc nk) path w'.others (omega arith)
          (path_beside s v ck (suc nk) path w.others (omega arith)
          (subst (λ (l : ℕ). IsPath s l path) (link-joined beyond red inner nk y other)
          p.path_linked));
      chained = chain_beside v z nk blanks w'.others (omega arith)
          (chain_beside s v ck blanks w.others (omega arith) p.chained);
      apart = λ e. (let all = p.apart e in
          let before = uses-joined e beyond red inner nk y other in
          let before' = uses-joined e side hue b ck x a in
          let after = uses-joined e side child_red sunk ck x a in
          let after' = uses-joined e beyond node_red b nk y other in omega arith);
      counted = omega (
        arith,
        size-joined beyond red inner nk y other,
        size-joined side hue b ck x a,
        size-joined side child_red sunk ck x a,
        size-joined beyond node_red b nk y other,
      );
      fits = omega (arith, p.fits);
      small = omega (arith, p.small);
    } in
    let nodes : u ≡ with_last_link z i.steps i.depth link =
    t.leaves
    ∙ ap (λ (m : Node).
    with_last_link (with_value (with_value s ck m) nk high) i.steps i.depth link) low_new
    ∙ ap (λ (m : Node). with_last_link (with_value v nk m) i.steps i.depth link) high_new in
    let leads_to : link ≡ link_of hand = t.some ∙ sym (link-joined side child_red sunk ck x a) in
    shut (with_turn i u link) (turned_to now side child_red node_red) hand path blanks (record {
      fields = other_hand h.fields
          (tightened z u i.steps i.depth (suc nk) link hand path blanks nodes leads_to loose
          h.path_steps) leads_to;
      shows = ap (λ (q : Zipper). turned_to q side child_red node_red) h.shows
          ∙ ap (λ (q : ColouredTree). record { tree = q; path = plain_path path; room = i.room })
          (plain-turned side hue red child_red node_red a b other ck nk x y);
    })

-- the link that was read leads to the child
near_link : (i : Inside) (now : Zipper) (side : Side) (key link : ℕ) (red : Bool) (near : Keyed)
    (x : Record) (far : Keyed) (path : List Level) (blanks : List ℕ) (n : Node) →
    FieldsHold i now (joined_keyed side red near key x far) path blanks → get i.nodes key ≡ Some n →
    link ≡ child_at side n → link_of near ≡ link
near_link i now side key link red near x far path blanks n h found is =
    let here = (parted i.nodes side red near key x far h.place.hand_linked).here in
    let node : sided_node side red x (link_of near) (link_of far) ≡ n = cc in
    sym (child-sided side red x (link_of near) (link_of far)) ∙ ap (child_at side) node ∙ sym is

pub turns : (i : Inside) (side : Side) (u : Slab Node) (now : Zipper) (nk ck link : ℕ)
    (child_red node_red : Bool) (n lower low upper high : Node) → IsInside i → show i ≡ now →
    TurnsTo i side u nk ck link child_red node_red n lower low upper high →
    Moved (with_turn i u link) (turned_to now side child_red node_red)
turns i side u now nk ck link child_red node_red n lower low upper high f shows t =
    let beyond = opposite side in
    let v = held_on i now beyond nk f shows t.tree in
    let down = near_link i now beyond nk link v.red v.near v.row v.far f.path f.blanks n v.held
    t.here t.child in
    let w = seen side ck v.near (down ∙ t.some) in
    turn_at i side u now w.red v.red w.far w.near v.far w.row v.row f.path f.blanks nk ck link
    child_red node_red n lower low upper high t
    (subst (λ (q : Keyed).
    FieldsHold i now (joined_keyed beyond v.red q nk v.row v.far) f.path f.blanks)
    w.is v.held)

-- where there is no child to be turned up, nothing is done
pub lone : (i : Inside) (side : Side) (now : Zipper) (nk link : ℕ) (child_red node_red : Bool)
    (n : Node) → IsInside i → show i ≡ now → i.tree ≡ suc nk → get i.nodes nk ≡ Some n →
    link ≡ child_at (opposite side) n → link ≡ 0 → now ≡ turned_to now side child_red node_red
lone i side now nk link child_red node_red n f shows some here child none =
    let beyond = opposite side in
    let v = held_on i now beyond nk f shows some in
    let down = near_link i now beyond nk link v.red v.near v.row v.far f.path f.blanks n v.held
    here child in
    let e : now.tree ≡ plain (joined_keyed beyond v.red nil nk v.row v.far) =
    ap (λ (q : Zipper). q.tree) v.held.shows
    ∙ ap (λ (q : Keyed). plain (joined_keyed beyond v.red q nk v.row v.far))
    (nothing v.near (down ∙ none)) in
    ap (λ (q : ColouredTree). record now { tree = q })
    (e ∙ sym (plain-lone side v.red child_red node_red nk v.row v.far)
    ∙ sym (ap (turned side child_red node_red) e))

pub none_turned : (side : Side) (now : Zipper) (child_red node_red : Bool) → now.tree ≡ tip →
    now ≡ turned_to now side child_red node_red
none_turned side now child_red node_red e =
    ap (λ (q : ColouredTree). record now { tree = q })
    (e ∙ sym (tip-turned side child_red node_red) ∙ sym (ap (turned side child_red node_red) e))
