-- What the fields of a cursor hold, and what the calls that go down and up make of it.
use Rattle.rb_cursor.proofs.Words.{Step, ◌≡◌, ℕ, suc, ◌+◌, ◌-◌, ◌<◌, Bool, List, [], ◌∷◌, length}
use Rattle.rb_cursor.proofs.Words.{Option}
use Rattle.rb_cursor.proofs.Words.{Some, is_some, count_by, set, refl, sym, ap, subst, ◌∙◌, arith}
use Rattle.rb_cursor.proofs.Words.{get_or-set_same, set-get_or, Slab, get, slab_len, ContainsKey}
use Rattle.rb_cursor.proofs.Words.{with_value, Record, ColouredTree, tip, Node, Side, Left, Inside}
use Rattle.rb_cursor.proofs.Words.{Above, Zipper, sided, child_at, weight, OpensSide, Keyed, nil}
use Rattle.rb_cursor.proofs.Words.{Level, link_of, plain, plain_level, plain_path, sided_node}
use Rattle.rb_cursor.proofs.Words.{record_of, IsPath, tree_from, IsPlace, AreFields, AreSteps}
use Rattle.rb_cursor.proofs.Words.{IsCursor, path_from, nat_tests}
use Rattle.rb_cursor.specs.Places.{shown}
use Rattle.rb_cursor.proofs.SideLemmas.{joined_keyed, seen, nothing, parted, linked-joined}
use Rattle.rb_cursor.proofs.SideLemmas.{read-sided, plain-joined, link-joined, uses-joined}
use Rattle.rb_cursor.proofs.SideLemmas.{size-joined, weight-sided, child-sided}
use Rattle.rb_cursor.proofs.KeyedLemmas.{tree_is, path_is, steps_kept, steps_length, plain_length}

abbrev pub IsInside : Inside → Type 0
IsInside i = IsCursor i.nodes i.tree i.steps i.depth i.blank i.room

abbrev pub show : Inside → Zipper
show i = shown i.nodes i.tree i.steps i.depth i.room

-- what the fields hold and show
pub record FieldsHold (i : Inside) (now : Zipper) (hand : Keyed) (path : List Level)
    (blanks : List ℕ) : Type 0 where
  pub fields : AreFields i.nodes i.tree i.steps i.depth i.blank i.room hand path blanks
  pub open fields use *
  pub shows : now ≡ record { tree = plain hand; path = plain_path path; room = i.room }

-- the slab, the tree in hand and its link alone are others
pub other_hand : {s u : Slab Node} {tree link : ℕ} {steps : List Step} {depth blank room : ℕ}
    {hand new : Keyed} {path : List Level} {blanks : List ℕ}
    → AreFields s tree steps depth blank room hand path blanks → IsPlace u new path blanks
    → link ≡ link_of new → AreFields u link steps depth blank room new path blanks
other_hand f place leads = record {
  place = place;
  tree_link = leads;
  path_steps = f.path_steps;
  blank_link = f.blank_link;
  room_is = f.room_is;
  few = f.few;
}

-- the fields are those of a cursor that shows this
pub record Moved (i : Inside) (now : Zipper) : Type 0 where
  pub is : IsInside i
  pub shows : show i ≡ now

pub shown_is : (i : Inside) (hand : Keyed) (path : List Level) (blanks : List ℕ) →
    IsPlace i.nodes hand path blanks → i.tree ≡ link_of hand → AreSteps i.steps i.depth path →
    show i ≡ record { tree = plain hand; path = plain_path path; room = i.room }
unfolding shown
shown_is i hand path blanks p link steps =
    let fuel : ℕ = i.nodes.capacity in
    let a : tree_from i.nodes fuel i.tree ≡ plain hand = ap (tree_from i.nodes fuel) link
    ∙ tree_is i.nodes hand fuel p.hand_linked (omega (arith, p.counted, p.fits)) in
    let b : path_from i.nodes fuel i.steps i.depth ≡ plain_path path =
    path_is i.nodes i.steps i.depth (link_of hand) path fuel p.path_linked steps
    (omega (arith, p.counted, p.fits)) in
    ap (λ (t : ColouredTree). record {
      tree = t;
      path = path_from i.nodes fuel i.steps i.depth;
      room = i.room;
    }) a
    ∙ ap (λ (q : List Above). record { tree = plain hand; path = q; room = i.room }) b

pub held : (i : Inside) (now : Zipper) (f : IsInside i) → show i ≡ now
    → FieldsHold i now f.hand f.path f.blanks
held i now f is = record {
  fields = f.fields;
  shows = sym is ∙ shown_is i f.hand f.path f.blanks f.place f.tree_link f.path_steps;
}

pub shut : (i : Inside) (now : Zipper) (hand : Keyed) (path : List Level) (blanks : List ℕ) →
    FieldsHold i now hand path blanks → Moved i now
shut i now hand path blanks h = record {
  is = record { hand = hand; path = path; blanks = blanks; fields = h.fields };
  shows = shown_is i hand path blanks h.place h.tree_link h.path_steps ∙ sym h.shows;
}

-- the first cursor
pub first : (i : Inside) → i.nodes.slots ≡ [] → i.tree ≡ 0 → i.depth ≡ 0 → i.blank ≡ 0 →
    i.room ≡ 0 → Moved i (record { tree = tip; path = []; room = 0 })
first i empty tree depth blank room =
    let len : slab_len i.nodes ≡ 0 = ap (λ (z : List (Option Node)). count_by is_some z) empty in
    shut i (record { tree = tip; path = []; room = 0 }) nil [] [] (record {
      fields = record {
        place = record {
          hand_linked = tt;
          path_linked = tt;
          chained = tt;
          apart = λ k. omega arith;
          counted = sym len;
          fits = omega arith;
          small = omega arith;
        };
        tree_link = tree;
        path_steps = depth;
        blank_link = blank;
        room_is = room;
        few = omega arith;
      };
      shows = ap (λ (r : ℕ). record { tree = tip; path = []; room = r }) (sym room);
    })

-- how many nodes are above, and how many more fit
pub depth_is : (i : Inside) (now : Zipper) → IsInside i → show i ≡ now → i.depth ≡ length now.path
depth_is i now f is =
    let h = held i now f is in
    steps_length i.steps i.depth f.path h.path_steps ∙ sym (plain_length f.path)
    ∙ sym (ap (λ (z : Zipper). length z.path) h.shows)

pub room_is : (i : Inside) (now : Zipper) → IsInside i → show i ≡ now → i.room ≡ now.room
room_is i now f is = sym (ap (λ (z : Zipper). z.room) (held i now f is).shows)

-- no link, no tree
pub none_there : (i : Inside) (now : Zipper) → IsInside i → show i ≡ now → i.tree ≡ 0
    → now.tree ≡ tip
none_there i now f is none =
    ap (λ (z : Zipper). z.tree) (held i now f is).shows
    ∙ ap plain (nothing f.hand (sym f.tree_link ∙ none))

-- going down on a side
abbrev pub with_step : Inside → Side → ℕ → Inside
with_step i side link =
    record i {
      tree = link;
      steps = set i.steps i.depth (record { link = i.tree; side = side });
      depth = i.depth + 1;
    }

pub record HasOpened (i : Inside) (now : Zipper) (side : Side) (n : Node) : Type 0 where
  pub is : IsInside (with_step i side (child_at side n))
  pub opens : OpensSide side now (show (with_step i side (child_at side n)))
      (record { red = n.red; node = n.node })
  pub row_is : opens.row ≡ record_of n

-- the steps with one more
steps_more : (i : Inside) (side : Side) (key : ℕ) (path : List Level) (red : Bool) (row : Record)
    (other : Keyed) → i.tree ≡ suc key → AreSteps i.steps i.depth path → i.depth < length i.steps →
    AreSteps (set i.steps i.depth (record { link = i.tree; side = side })) (i.depth + 1)
    (record { side = side; red = red; key = key; row = row; other = other } ∷ path)
steps_more i side key path red row other some steps within =
    grind (arith, nat_tests, steps_length, get_or-set_same, steps_kept)

-- the tree in hand seen from a side
pub record HeldOn (i : Inside) (now : Zipper) (side : Side) (key : ℕ) (path : List Level)
    (blanks : List ℕ) : Type 0 where
  pub red : Bool
  pub near : Keyed
  pub row : Record
  pub far : Keyed
  pub held : FieldsHold i now (joined_keyed side red near key row far) path blanks

pub held_on : (i : Inside) (now : Zipper) (side : Side) (key : ℕ) (f : IsInside i) → show i ≡ now →
    i.tree ≡ suc key → HeldOn i now side key f.path f.blanks
held_on i now side key f is some =
    let v = seen side key f.hand (sym f.tree_link ∙ some) in
    record {
      red = v.red;
      near = v.near;
      row = v.row;
      far = v.far;
      held = subst (λ (t : Keyed). FieldsHold i now t f.path f.blanks) v.is (held i now f is);
    }

pub opened : (i : Inside) (now : Zipper) (side : Side) (key : ℕ) (n : Node) → IsInside i →
    show i ≡ now → i.tree ≡ suc key → get i.nodes key ≡ Some n → i.depth < 64 →
    i.depth < length i.steps → HasOpened i now side n
opened i now side key n f is some found room within =
    let v = held_on i now side key f is some in
    let h = v.held in
    let p = h.place in
    let parts = parted i.nodes side v.red v.near key v.row v.far p.hand_linked in
    let here = parts.here in
    let node : sided_node side v.red v.row (link_of v.near) (link_of v.far) ≡ n = cc in
    let read = read-sided side v.red v.row (link_of v.near) (link_of v.far) n node in
    let a : Level = record { side = side; red = v.red; key = key; row = v.row; other = v.far } in
    let j : Inside = with_step i side (child_at side n) in
    let new : Zipper =
    record { tree = plain v.near; path = plain_level a ∷ plain_path f.path; room = i.room } in
    let m : Moved j new = shut j new v.near (a ∷ f.path) f.blanks (record {
      fields = record {
        place = record {
          hand_linked = parts.near;
          path_linked = (
            parts.here,
            parts.far,
            subst (λ (l : ℕ). IsPath i.nodes l f.path)
                (link-joined side v.red v.near key v.row v.far) p.path_linked,
          );
          chained = p.chained;
          apart = λ e. (let all = p.apart e in
              let here = uses-joined e side v.red v.near key v.row v.far in omega arith);
          counted = omega (arith, p.counted, size-joined side v.red v.near key v.row v.far);
          fits = p.fits;
          small = p.small;
        };
        tree_link = sym (ap (child_at side) node)
            ∙ child-sided side v.red v.row (link_of v.near) (link_of v.far);
        path_steps = steps_more i side key f.path v.red v.row v.far some h.path_steps within;
        blank_link = h.blank_link;
        room_is = h.room_is;
        few = omega arith;
      };
      shows = refl;
    }) in
    let e : now.tree ≡ sided side n.red (plain v.near) v.row (plain v.far) =
    ap (λ (z : Zipper). z.tree) h.shows ∙ plain-joined side v.red v.near key v.row v.far
    ∙ ap (λ (b : Bool). sided side b (plain v.near) v.row (plain v.far)) read.0 in
    let heavy = ap weight e ∙ weight-sided side n.red (plain v.near) v.row (plain v.far) in
    let light = ap (λ (z : Zipper). weight z.tree) m.shows in
    let up : Bool → Above =
    λ b. record { side = side; red = b; row = v.row; other = plain v.far } in
    record {
      is = m.is;
      opens = record {
        row = v.row;
        other = plain v.far;
        node = sym (ap (λ (z : Record). z.node) read.1);
        was = e ∙ sym (ap (λ (z : Zipper). sided side n.red z.tree v.row (plain v.far)) m.shows);
        path = ap (λ (z : Zipper). z.path) m.shows
            ∙ ap (λ (b : Bool). up b ∷ plain_path f.path) read.0
            ∙ sym (ap (λ (z : Zipper). up n.red ∷ z.path) h.shows);
        room = ap (λ (z : Zipper). z.room) m.shows ∙ sym (ap (λ (z : Zipper). z.room) h.shows);
        less = omega arith;
      };
      row_is = read.1;
    }

-- going up with nothing written
abbrev pub back : Level → Keyed → Keyed
back a t = joined_keyed a.side a.red t a.key a.row a.other

pub place_back : (s : Slab Node) (hand : Keyed) (a : Level) (path : List Level) (blanks : List ℕ) →
    IsPlace s hand (a ∷ path) blanks → IsPlace s (back a hand) path blanks
place_back s hand a path blanks p = record {
  hand_linked = linked-joined s a.side a.red hand a.key a.row a.other
      (record { here = p.path_linked.0; near = p.hand_linked; far = p.path_linked.1 });
  path_linked = subst (λ (l : ℕ). IsPath s l path)
      (sym (link-joined a.side a.red hand a.key a.row a.other)) p.path_linked.2;
  chained = p.chained;
  apart = λ e. (let all = p.apart e in
      let here = uses-joined e a.side a.red hand a.key a.row a.other in omega arith);
  counted = omega (arith, p.counted, size-joined a.side a.red hand a.key a.row a.other);
  fits = p.fits;
  small = p.small;
}

-- one step up, with nothing written
abbrev pub without_step : Inside → ℕ → Inside
without_step i link = record i { tree = link; depth = i.depth - 1 }

pub gone_back : (i : Inside) (now : Zipper) (hand : Keyed) (a : Level) (path : List Level)
    (blanks : List ℕ) (link : ℕ) → FieldsHold i now hand (a ∷ path) blanks → link ≡ suc a.key →
    FieldsHold (without_step i link)
    (record { tree = plain (back a hand); path = plain_path path; room = i.room }) (back a hand)
    path blanks
gone_back i now hand a path blanks link h e = record {
  fields = record {
    place = place_back i.nodes hand a path blanks h.place;
    tree_link = e ∙ sym (link-joined a.side a.red hand a.key a.row a.other);
    path_steps = let d : length path ≡ i.depth - 1 = omega (arith, h.path_steps.0) in
        subst (λ (e : ℕ). AreSteps i.steps e path) d h.path_steps.2;
    blank_link = h.blank_link;
    room_is = h.room_is;
    few = omega (arith, h.few);
  };
  shows = refl;
}

-- the node in hand is there
pub top_present : (i : Inside) (key : ℕ) → IsInside i → i.tree ≡ suc key → ContainsKey i.nodes key
top_present i key f some =
    rw (held_on i (show i) Left key f refl some).held.place.hand_linked.0 refl

-- a value written back is no change
pub same_value : (s : Slab Node) (key : ℕ) (n : Node) → get s key ≡ Some n →
    with_value s key n ≡ s
same_value s key n found = grind (arith, nat_tests, set-get_or)

abbrev pub written_back : Inside → ℕ → Node → Inside
written_back i key n = record i { nodes = with_value i.nodes key n }
