-- The way up of an insert, as the calls of a cursor show it.
use Rattle.rb_cursor.proofs.Words.{◌≡◌, ℕ, suc, ◌+◌, ◌≤◌, Bool, true, false, List, [], ◌∷◌, ◌++◌}
use Rattle.rb_cursor.proofs.Words.{refl, sym, ◌∙◌, ap, subst, arith, length, length-append}
use Rattle.rb_cursor.proofs.Words.{append_assoc, Store, Order, IsLawful, Record, Left, Right}
use Rattle.rb_cursor.proofs.Words.{ColouredTree, tip, branch, is_red, blackened, shape, rows}
use Rattle.rb_cursor.proofs.Words.{HasNoClash, IsRedBlack, depth, sided, set_link, link, relink}
use Rattle.rb_cursor.proofs.Words.{relink_root, moved, Lead, items_of_records, Above, plugged}
use Rattle.rb_cursor.proofs.Words.{way_by, Replaced, Nothing, Sound, place_leaf, plugged_to}
use Rattle.rb_cursor.proofs.Words.{short_to, leaf_lies, red_sided, link_sided, rows_blackened}
use Rattle.rb_cursor.proofs.Words.{moved_one, not_moved, relink_moved, root_moved, replaced_lead}
use Rattle.rb_cursor.proofs.Words.{Grown, at_side, grown_leaf, grown_red, mended_calm, grown_black}
use Rattle.rb_cursor.proofs.Words.{grown_kept, kept_still, grown_good, kept_good, Nearest, Zipper}
use Rattle.rb_cursor.proofs.Words.{altered, IsNearest, risen, PutsIn, nat_tests}
use Rattle.order_laws.specs.Tables.{IsTable}
use Rattle.rb_trees.specs.Inserted.{mended, mend_links}
use Rattle.rb_trees.proofs.PlaceRows.{rows_grown}
use Rattle.rb_trees.proofs.ColourLemmas.{calm_of_near}
use Rattle.rb_trees.proofs.RelinkLemmas.{shape_blackened}
use Rattle.rb_trees.proofs.MendLemmas.{Mending, mending, mended_sided, mend_links_sided}
use Rattle.rb_cursor.proofs.StepLemmas.{zipper, above_of, risen_there}

-- the tree with the new leaf
abbrev pub leaf : Record → ColouredTree
leaf x = branch true tip x tip

module _ (copy : ℕ) (x : Record) (start : List Above) (first : List Store) where
  -- what the loop knows of the tree in hand
  pub record InsertRises (here : Zipper) (before after : ℕ) (red clashes : Bool)
      (now : List Store) : Type 0 where
    pub was : ColouredTree
    pub links : List Store
    pub grown : Grown copy x.node (plugged start tip) (rows (plugged start (branch true tip x tip)))
        here.path was here.tree links
    pub stores : now ≡ first ++ links
    pub from : before ≡ link (shape was)
    pub linked : after ≡ link (shape here.tree)
    pub red_is : red ≡ is_red here.tree
    pub clear : clashes ≡ false → (h : ℕ) → Sound was h → HasNoClash here.tree
    pub few : length links + moved before after ≤ 9
    pub low : red ≡ true → length links + moved before after ≤ 3

  -- what it knows where it has ended: of the whole tree, to which the jump goes
  pub record InsertEnds (u : ColouredTree) (now : List Store) : Type 0 where
    pub was : ColouredTree
    pub links : List Store
    pub replaced : Replaced copy (λ i. i ≡ x.node) Nothing (plugged start tip)
        (rows (plugged start (branch true tip x tip))) [] was u links
    pub good : IsRedBlack (plugged start tip) → IsRedBlack (blackened u)
    pub stores : now ≡ first ++ links
    pub few : length links + moved (link (shape was)) (link (shape u)) ≤ 9

module _ {copy : ℕ} {x : Record} {start : List Above} {first : List Store} where
  pub insert_begins : (room : ℕ) {here : Zipper} → here ≡ zipper (branch true tip x tip) start room
      → {now : List Store}
      → now ≡ first ++ (set_link Left copy x.node 0 ∷ set_link Right copy x.node 0 ∷ [])
      → InsertRises copy x start first here 0 (x.node + 1) true false now
  insert_begins room is {now = now} e =
      subst (λ z. InsertRises copy x start first z 0 (x.node + 1) true false now) (sym is) (record {
        was = tip;
        links = set_link Left copy x.node 0 ∷ set_link Right copy x.node 0 ∷ [];
        grown = grown_leaf copy x start;
        stores = e;
        from = refl;
        linked = omega arith;
        red_is = refl;
        clear = λ e h s. (refl, refl, tt, tt);
        few = omega (arith, moved_one 0 (x.node + 1));
        low = λ e. omega (arith, moved_one 0 (x.node + 1));
      })

  -- one step up
  module _ {here : Zipper} {before after : ℕ} {red clashes : Bool} {now : List Store}
      (is : InsertRises copy x start first here before after red clashes now)
      {up : Nearest} (near : IsNearest here.path up) where
    abbrev pub relinked : List Store
    relinked = relink up.side copy up.node before after

    abbrev pub there : ColouredTree → ColouredTree
    there t = sided up.side up.red t near.row near.other

    pub grown_here : Grown copy x.node (plugged start tip)
        (rows (plugged start (branch true tip x tip))) (above_of up near ∷ near.rest) is.was
        here.tree is.links
    grown_here = grind (arith, nat_tests)

    pub relinked_is : relinked
        ≡ relink up.side copy near.row.node (link (shape is.was)) (link (shape here.tree))
    relinked_is = grind (arith, nat_tests)

    pub relink_fits : length relinked ≡ moved before after
    relink_fits = relink_moved up.side copy up.node before after

    stored : {now1 : List Store} → now1 ≡ now ++ relinked → now1 ≡ first ++ (is.links
        ++ relink up.side copy near.row.node (link (shape is.was)) (link (shape here.tree)))
    stored e = grind (arith, nat_tests, append_assoc, relinked_is)

    longer : length (is.links ++ relink up.side copy near.row.node (link (shape is.was))
        (link (shape here.tree))) ≡ length is.links + moved before after
    longer = ap (λ ss. length (is.links ++ ss)) (sym relinked_is) ∙ length-append is.links relinked
        ∙ ap (λ n. length is.links + n) relink_fits

    pub there_is : {z : Zipper} → z ≡ risen here → z ≡ zipper (there here.tree) near.rest here.room
    there_is rises = rises ∙ risen_there here up near

    -- at a red node
    pub insert_at_red : up.red ≡ true → red ≡ true → {z : Zipper} → z ≡ risen here
        → {now1 : List Store} → now1 ≡ now ++ relinked
        → InsertRises copy x start first z (up.node + 1) (up.node + 1) red true now1
    insert_at_red r reds {z = z} rises {now1 = now1} e =
        let ss = is.links
        ++ relink up.side copy near.row.node (link (shape is.was)) (link (shape here.tree)) in
        let g = grown_red up.side near.row near.other near.rest
        (subst (λ v. Grown copy x.node (plugged start tip)
        (rows (plugged start (branch true tip x tip))) (at_side up.side v near.row near.other
        ∷ near.rest) is.was here.tree is.links) r grown_here) in
        let node : up.node + 1 ≡ suc near.row.node = omega (arith, near.node) in
        let none : moved (up.node + 1) (up.node + 1) ≡ 0 =
        not_moved (up.node + 1) (up.node + 1) refl in
        subst (λ y. InsertRises copy x start first y (up.node + 1) (up.node + 1) red true now1)
        (sym (there_is rises ∙ ap (λ v. zipper (sided up.side v here.tree near.row near.other)
        near.rest here.room) r)) (record {
          was = sided up.side true is.was near.row near.other;
          links = ss;
          grown = g;
          stores = stored e;
          from = node ∙ sym (link_sided up.side true is.was near.row near.other);
          linked = node ∙ sym (link_sided up.side true here.tree near.row near.other);
          red_is = reds ∙ sym (red_sided up.side true here.tree near.row near.other);
          clear = λ f. absurd (cc);
          few = omega (arith, longer, none, is.few);
          low = λ f. omega (arith, longer, none, is.low reds);
        })

    -- at a black node, which is mended
    module _ (black : up.red ≡ false) (reds : red ≡ true) {z : Zipper}
        (rises : z ≡ risen here) where
      abbrev bare : ColouredTree
      bare = sided up.side false here.tree near.row near.other

      bare_is : z ≡ zipper (sided up.side false here.tree near.row near.other) near.rest here.room
      bare_is = there_is rises ∙ ap
          (λ v. zipper (sided up.side v here.tree near.row near.other) near.rest here.room) black

      mends : Mending near.row (mended up.side (sided up.side false here.tree near.row near.other))
          (mend_links up.side copy (sided up.side false here.tree near.row near.other))
      mends = grind (arith, nat_tests, mended_sided, mend_links_sided, mending)

      pub mend_fits : length is.links + moved before after + length (mend_links up.side copy z.tree)
          ≤ 8
      mend_fits = omega
          (arith, is.low reds, ap (λ y. length (mend_links up.side copy y.tree)) bare_is, mends.few)

      pub insert_at_black : {y : Zipper} → y ≡ altered (mended up.side) z → {now1 now2 : List Store}
          → now1 ≡ now ++ relinked → now2 ≡ now1 ++ mend_links up.side copy z.tree
          → {link_now : ℕ} → link_now ≡ link (shape y.tree) → {red_now : Bool}
          → red_now ≡ is_red y.tree
          → InsertRises copy x start first y (up.node + 1) link_now red_now false now2
      insert_at_black {y = y} alters {now1 = now1} {now2 = now2} e f {link_now = link_now} ls
          {red_now = red_now} rs =
          let ss = is.links
          ++ relink up.side copy near.row.node (link (shape is.was)) (link (shape here.tree)) in
          let ms = mend_links up.side copy bare in
          let u = mended up.side bare in
          let was = sided up.side false is.was near.row near.other in
          let g = subst (λ v.
          Grown copy x.node (plugged start tip) (rows (plugged start (branch true tip x tip)))
          (at_side up.side v near.row near.other ∷ near.rest) is.was here.tree is.links) black
          grown_here in
          let y_is : y ≡ zipper u near.rest here.room =
          alters ∙ ap (altered (mended up.side)) bare_is in
          let tree_is : y.tree ≡ u = ap (λ q. q.tree) y_is in
          let node : up.node + 1 ≡ suc near.row.node = omega (arith, near.node) in
          let length_is : length (ss ++ ms) ≡ length is.links + moved before after + length ms =
          length-append ss ms ∙ ap (λ n. n + length ms) longer in
          let one = moved_one (up.node + 1) link_now in
          record {
            was = was;
            links = ss ++ ms;
            grown = subst (λ q. Grown copy x.node (plugged start tip)
                (rows (plugged start (branch true tip x tip))) q.path was q.tree (ss ++ ms))
                (sym y_is) (grown_black up.side near.row near.other near.rest g);
            stores = f ∙ ap (λ qs. qs ++ mend_links up.side copy z.tree) (stored e)
                ∙ append_assoc first ss (mend_links up.side copy z.tree)
                ∙ ap (λ q. first ++ (ss ++ mend_links up.side copy q.tree)) bare_is;
            from = node ∙ sym (link_sided up.side false is.was near.row near.other);
            linked = ls;
            red_is = rs;
            clear = λ _ h s. subst HasNoClash (sym tree_is)
                (mended_calm up.side near.row near.other near.rest g h s).calm;
            few = omega (arith, length_is, mends.few, is.low reds, one);
            low = λ r.
                let s = mends.still (ap is_red (sym tree_is) ∙ sym rs ∙ r) in
                let none : moved (up.node + 1) link_now ≡ 0 = not_moved (up.node + 1) link_now
                (node ∙ sym s.1 ∙ ap (λ q. link (shape q)) (sym tree_is) ∙ sym ls) in
                omega (arith, length_is, s.0, is.low reds, none);
          }

    -- nothing changes above
    pub insert_settled : ((h : ℕ) → Sound is.was h → HasNoClash here.tree)
        → (up.red ≡ true → is_red here.tree ≡ false) → {z : Zipper} → z ≡ risen here
        → {now1 : List Store} → now1 ≡ now ++ relinked
        → InsertEnds copy x start first (plugged z.path z.tree) now1
    insert_settled calm black rises {now1 = now1} e =
        let a = above_of up near in
        let k = kept_still near.rest (grown_kept a near.rest grown_here calm black)
        (link_sided up.side up.red is.was near.row near.other
        ∙ sym (link_sided up.side up.red here.tree near.row near.other)) in
        subst (λ y. InsertEnds copy x start first (plugged y.path y.tree) now1)
        (sym (there_is rises)) (record {
          was = plugged near.rest (there is.was);
          links = is.links
              ++ relink up.side copy near.row.node (link (shape is.was)) (link (shape here.tree));
          replaced = (k.0).replaced;
          good = kept_good k.0;
          stores = stored e;
          few = omega (
            arith,
            longer,
            not_moved (link (shape (plugged near.rest (there is.was))))
                (link (shape (plugged near.rest (there here.tree)))) k.1,
          );
        })

    pub insert_settled_black : red ≡ false → {z : Zipper} → z ≡ risen here → {now1 : List Store}
        → now1 ≡ now ++ relinked → InsertEnds copy x start first (plugged z.path z.tree) now1
    insert_settled_black black rises e = grind (arith, nat_tests, insert_settled, calm_of_near)

    pub insert_settled_below : up.red ≡ false → clashes ≡ false → {z : Zipper} → z ≡ risen here
        → {now1 : List Store} → now1 ≡ now ++ relinked
        → InsertEnds copy x start first (plugged z.path z.tree) now1
    insert_settled_below black clear rises e = insert_settled (is.clear clear)
        (λ r. absurd (let f : true ≡ false = sym r ∙ black in cc)) rises e

  -- at the top the way has ended, too
  pub insert_topmost : {here : Zipper} {before after : ℕ} {red clashes : Bool} {now : List Store}
      → InsertRises copy x start first here before after red clashes now
      → here.path ≡ [] → InsertEnds copy x start first (plugged here.path here.tree) now
  insert_topmost {here = here} {before = before} {after = after} {now = now} is top =
      let g = subst (λ p. Grown copy x.node (plugged start tip)
      (rows (plugged start (branch true tip x tip))) p is.was here.tree is.links) top
      is.grown in
      subst (λ p. InsertEnds copy x start first (plugged p here.tree) now) (sym top) (record {
        was = is.was;
        links = is.links;
        replaced = g.replaced;
        good = grown_good g;
        stores = is.stores;
        few = omega
            (arith, ap (λ b. moved b after) is.from, ap (moved (link (shape is.was))) is.linked);
      })

  -- with the top black, and the root's link
  module _ {u : ColouredTree} {now : List Store} (ends : InsertEnds copy x start first u now) where
    pub ends_lead : Lead (λ i. i ≡ x.node) copy (shape (plugged start tip)) (shape (blackened u))
        (ends.links
        ++ relink_root copy (link (shape (plugged start tip))) (link (shape (blackened u))))
    ends_lead = replaced_lead ends.replaced (blackened u) (shape_blackened u)

    pub ends_few : length ends.links + length
        (relink_root copy (link (shape (plugged start tip))) (link (shape (blackened u)))) ≤ 9
    ends_few = grind (arith, nat_tests, root_moved, shape_blackened)

-- from the place of an item
module _ {K : Type 0} (o : Order K) (added : Record) (t : ColouredTree) {from path : List Above}
    (goes : path ≡ way_by o.less added.item t from) (top : from ≡ []) where
  way_there : path ≡ way_by o.less added.item t []
  way_there = goes ∙ ap (way_by o.less added.item t) top

  pub insert_whole : plugged path tip ≡ t
  insert_whole =
      ap (λ p. plugged p tip) way_there
      ∙ ap (plugged (way_by o.less added.item t [])) (sym (place_leaf o.less added.item t))
      ∙ plugged_to (leaf_lies o.less added.item) t []

  pub insert_few : length path ≤ depth (shape t)
  insert_few = omega (arith, ap length way_there, short_to (leaf_lies o.less added.item) t [])

  pub insert_puts : IsLawful o → IsTable o (items_of_records (rows t)) → {rs : List Record}
      → rs ≡ rows (plugged path (branch true tip added tip)) → PutsIn o added (rows t) rs
  insert_puts law is e = e ∙ ap (λ p. rows (plugged p (branch true tip added tip))) way_there
      ∙ rows_grown o law added t is

pub ruleset insert_place = (insert_whole, insert_few)
