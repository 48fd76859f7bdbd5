-- What planned changes make of the picture, and that the plan's stores lead a copy there.
use Rattle.rb_words.proofs.Words.{◌≡◌, ◌≢◌, ℕ, suc, ◌+◌, ◌*◌, ◌^◌, ◌<◌, ◌≤◌, true, false, List, []}
use Rattle.rb_words.proofs.Words.{◌∷◌, ◌++◌, length, map, Some, refl, sym, ◌∙◌, ap, subst, inl, inr}
use Rattle.rb_words.proofs.Words.{⊎_elim, arith, length-set, Contains, insert, remove, slice_get}
use Rattle.rb_words.proofs.Words.{AllByRecursion, cases_lt, Item, Order, IsLawful, IsInLine}
use Rattle.rb_words.proofs.Words.{IsTable, with_item, without, place_for, place_of, has, meets}
use Rattle.rb_words.proofs.Words.{with_place, without_place, without_none, all_differ, all_get}
use Rattle.rb_words.proofs.Words.{all_insert, all_left, all_remove, all_right, length-insert}
use Rattle.rb_words.proofs.Words.{length-remove_at, map-insert, map-remove, Contains-insert}
use Rattle.rb_words.proofs.Words.{Contains-insert_cases, Contains-remove, as_many_rows, Store}
use Rattle.rb_words.proofs.Words.{Nodes, none, fork, words_for, a_word, b_word, tag_word, item_at}
use Rattle.rb_words.proofs.Words.{listed, Reaches, InUse, words_after_all, AreLinkStores}
use Rattle.rb_words.proofs.Words.{unused_item, length_after, after_append, at_stored, at_other}
use Rattle.rb_words.proofs.Words.{items_of_records, meets_on_the_way, met_meets, AreDistinct}
use Rattle.rb_words.proofs.Words.{Picture, IsPicture, IsPictured, Inserts, LeadsWithItem, Erases}
use Rattle.rb_words.proofs.Words.{LeadsByLinks, item_stores, picture_of, LosesWord, nat_tests}
use Rattle.std.specs.Option.{option_map}
use Rattle.std.proofs.Math.Nat.{pow-le-pow_right, mul-le-mul}
use Rattle.std.proofs.lemmas.Option.{slice_get-map}
use Rattle.order_laws.proofs.TableLemmas.{with_item_table, without_table}
use Rattle.order_laws.proofs.MeetLemmas.{not_meeting}
use Rattle.word_layout.proofs.LinkLemmas.{item_kept}
use Rattle.word_layout.specs.Limits.{most_nodes}
use Rattle.word_layout.proofs.HoldsLemmas.{tree_untouched}
use Rattle.word_layout.proofs.ReachLemmas.{reached_listed}
use Rattle.rb_trees.specs.declared.Record.{Record}
use Rattle.rb_trees.specs.Trees.{ColouredTree, shape, rows, depth, IsRedBlack}
use Rattle.rb_trees.specs.Linked.{Among, IsSeparate, LeadLinks, Lead}
use Rattle.rb_trees.specs.Replaced.{Nothing}
use Rattle.rb_cursor.specs.Changes.{PutsIn}
use Rattle.rb_trees.proofs.DepthLemmas.{balanced_depth}
use Rattle.rb_trees.proofs.PlaceRows.{taken_out}
use Rattle.rb_trees.proofs.LeadsLemmas.{listed_rows, all_among, among_listed, Stored, stored_items}
use Rattle.rb_trees.proofs.LeadsLemmas.{items_stored}
use Rattle.rb_words.proofs.ListLemmas.{distinct_insert, distinct_remove, distinct_fit}
use Rattle.rb_words.proofs.ListLemmas.{member_remove}

-- distinct nodes, by the tree
distinct_parts : (xs ys : List ℕ) → AreDistinct (xs ++ ys) →
    AreDistinct xs × AreDistinct ys × AllByRecursion (λ x. AllByRecursion (λ y. x ≢ y) ys) xs
distinct_parts [] ys h = (tt, h, tt)
distinct_parts (x ∷ xs) ys h =
    grind (arith, nat_tests, distinct_parts xs ys h.1, all_left, all_right)

separate : (t : Nodes) → AreDistinct (listed t) → IsSeparate t
separate none h = tt
separate (fork l i r) h =
    let d = distinct_parts (listed l) (i ∷ listed r) h in
    let cross : (j : ℕ) → Among l j → AllByRecursion (λ y. j ≢ y) (i ∷ listed r) =
    all_among (λ j. AllByRecursion (λ y. j ≢ y) (i ∷ listed r)) l d.2 in
    let right : AllByRecursion (λ y. i ≢ y) (listed r) = d.1.0 in (
      (λ a. (cross i a).0 refl),
      (λ a. all_among (λ y. i ≢ y) r right i a refl),
      (λ j a b. all_among (λ y. j ≢ y) r (cross j a).1 j b refl),
      separate l d.0,
      separate r d.1.1,
    )

-- links leave the items
stored_kept : (m : List ℕ) (n c : ℕ) (links : List Store) (rs : List Record) → c ≤ 1 →
    AreLinkStores n c links → Stored m rs → Stored (words_after_all m links) rs
stored_kept m n c links [] small are h = tt
stored_kept m n c links (r ∷ rs) small are h =
    (item_kept m n c links r.node small are ∙ h.0, stored_kept m n c links rs small are h.1)

-- the words of an item in a node
pub item_put : (m : List ℕ) (n node : ℕ) (i : Item) → node < n → length m ≡ words_for n →
    item_at (words_after_all m (item_stores node i)) node ≡ i
item_put m n node i lt sized = grind (arith, nat_tests, length-set, at_other, at_stored)

-- the whole of a planned insert, as a shape shows it
pub record AfterInsert {K : Type 0} (o : Order K) (n c : ℕ) (t u : ColouredTree) (room : ℕ)
    (x : Record) (links : List Store) (shown : Picture) : Type 0 where
  pub picture : IsPicture o (picture_of n c u room)
  pub count : length (rows u) ≡ suc (length (rows t))
  pub inserts : Inserts o shown (picture_of n c u room) x.node x.item
  pub leads : LeadsWithItem shown (picture_of n c u room) x.node x.item links

-- and of a planned erase
pub record AfterErase {K : Type 0} (o : Order K) (n c : ℕ) (t u : ColouredTree) (room a node : ℕ)
    (links : List Store) (shown : Picture) : Type 0 where
  pub picture : IsPicture o (picture_of n c u room)
  pub count : suc (length (rows u)) ≡ length (rows t)
  pub erases : Erases shown (picture_of n c u room) a node
  pub leads : LeadsByLinks shown (picture_of n c u room) links

-- another tree of the same nodes and items, or of one more or less
module _ {K : Type 0} (o : Order K) (n c : ℕ) (t u : ColouredTree) (old room : ℕ)
    (is : IsPicture o (picture_of n c t old)) where
  can_be_pictured : IsRedBlack u → IsTable o (items_of_records (rows u)) → (nodes : List ℕ)
      → listed (shape u) ≡ nodes → AllByRecursion (λ i. i < n) nodes → AreDistinct nodes
      → IsPicture o (picture_of n c u room)
  can_be_pictured good is_table nodes same below distinct =
      let below_new = subst (AllByRecursion (λ i. i < n)) (sym same) below in
      let distinct_new = subst AreDistinct (sym same) distinct in
      let many = as_many_rows u in
      record {
        one_copy = is.one_copy;
        is_table = is_table;
        below = below_new;
        distinct = distinct_new;
        as_many = many;
        fits = omega (arith, many, distinct_fit (listed (shape u)) n distinct_new below_new);
        balanced = (u, good, refl);
      }

  -- stores that lead to it, where its items are in their places
  leads_to : (links : List Store) → LeadLinks n c (shape t) (shape u) links → (m : List ℕ)
      → IsPictured m (picture_of n c t old) → Stored m (rows u)
      → IsPictured (words_after_all m links) (picture_of n c u room)
  leads_to links led m shown stored = record {
    sized = length_after m links ∙ shown.sized;
    holds = record {
      leads = led.leads m shown.sized shown.holds.leads;
      listed_items = stored_items (words_after_all m links) u
          (stored_kept m n c links (rows u) is.one_copy led.words stored);
    };
  }

-- a record more
module _ {K : Type 0} (o : Order K) (law : IsLawful o) (n c : ℕ) (t u : ColouredTree) (old room : ℕ)
    (more : room + 1 ≡ old) (is : IsPicture o (picture_of n c t old)) (x : Record)
    (links : List Store) (puts : PutsIn o x (rows t) (rows u)) (good : IsRedBlack u)
    (lead : Lead (λ i. i ≡ x.node) c (shape t) (shape u) links)
    (lt : x.node < n) (free : Contains (listed (shape t)) x.node → ⊥)
    (valid : o.valid x.item ≡ true)
    (apart : meets o x.item (items_of_records (rows t)) ≡ false) where
  items_with : items_of_records (rows u) ≡ with_item o x.item (items_of_records (rows t))
  items_with = grind (arith, nat_tests, map-insert, with_place)

  listed_with : listed (shape u)
      ≡ insert (listed (shape t)) (place_for o x.item (items_of_records (rows t))) x.node
  listed_with = grind (arith, nat_tests, listed_rows, map-insert)

  led_with : LeadLinks n c (shape t) (shape u) links
  led_with = lead n is.one_copy (record {
    below = λ i h. ⊎_elim (λ e. subst (λ j. j < n) (sym e) lt)
        (λ a. all_among (λ j. j < n) (shape t) is.below i a) h;
    free = λ i e a. free (among_listed (shape t) x.node (subst (Among (shape t)) e a));
    separate = separate (shape t) is.distinct;
  })

  picture_with : IsPicture o (picture_of n c u room)
  picture_with =
      let p = place_for o x.item (items_of_records (rows t)) in
      can_be_pictured o n c t u old room is good
      (subst (IsTable o) (sym items_with)
      (with_item_table o law x.item (items_of_records (rows t)) valid
      (not_meeting o x.item (items_of_records (rows t)) apart) is.is_table))
      (insert (listed (shape t)) p x.node) listed_with
      (all_insert (λ i. i < n) (listed (shape t)) p x.node is.below lt)
      (distinct_insert (listed (shape t)) p x.node is.distinct
      (all_differ (listed (shape t)) x.node free))

  inserts_with : Inserts o (picture_of n c t old) (picture_of n c u room) x.node x.item
  inserts_with =
      let p = place_for o x.item (items_of_records (rows t)) in
      record {
        capacity = refl;
        copy = refl;
        table = items_with;
        nodes = λ i. (
          (λ h. Contains-insert_cases (listed (shape t)) p x.node i
              (subst (λ xs. Contains xs i) listed_with h)),
          (λ h. subst (λ xs. Contains xs i) (sym listed_with)
              (Contains-insert (listed (shape t)) p x.node i h)),
        );
        in_order = listed_with;
        room = more;
      }

  alone_with : (m : List ℕ) → IsPictured m (picture_of n c t old) → item_at m x.node ≡ x.item →
      IsPictured (words_after_all m links) (picture_of n c u room)
  alone_with m shown has_item =
      let p = place_for o x.item (items_of_records (rows t)) in
      leads_to o n c t u old room is links led_with m shown (subst (Stored m) (sym puts)
      (all_insert (λ r. item_at m r.node ≡ r.item) (rows t) p x
      (items_stored m t shown.holds.listed_items) has_item))

  words_with : (m : List ℕ) → IsPictured m (picture_of n c t old) →
      IsPictured (words_after_all m (item_stores x.node x.item ++ links)) (picture_of n c u room)
  words_with m shown =
      let stores = item_stores x.node x.item in
      let m1 = words_after_all m stores in
      let unreached : Reaches m n c x.node → ⊥ =
      λ r. free (reached_listed m n c (shape t) shown.holds.leads x.node r) in
      let unused : AllByRecursion (λ (s : Store). InUse m n c s.word → ⊥) stores = (
        unused_item m n c x.node (a_word x.node) is.one_copy unreached (inl refl),
        (
          unused_item m n c x.node (b_word x.node) is.one_copy unreached (inr (inl refl)),
          (unused_item m n c x.node (tag_word x.node) is.one_copy unreached (inr (inr refl)), tt),
        ),
      ) in
      let put : IsPictured m1 (picture_of n c t old) =
      record {
        sized = length_after m stores ∙ shown.sized;
        holds =
            tree_untouched m n c (items_of_records (rows t)) (shape t) stores unused shown.holds;
      } in
      subst (λ w. IsPictured w (picture_of n c u room)) (sym (after_append m stores links))
      (alone_with m1 put (item_put m n x.node x.item lt shown.sized))

  after_insert : AfterInsert o n c t u room x links (picture_of n c t old)
  after_insert = record {
    picture = picture_with;
    count =
        ap length puts ∙ length-insert (rows t) (place_for o x.item (items_of_records (rows t))) x;
    inserts = inserts_with;
    leads = record {
      links_only = record { words = led_with.words; values = led_with.values };
      leads = words_with;
      leads_alone = alone_with;
    };
  }

-- the same of what a shape shows
abbrev pub CanInsert : {K : Type 0} → Order K → Record → Picture → Type 0
CanInsert o x shown = (x.node < shown.capacity) × (Contains (listed shown.tree) x.node → ⊥)
    × (o.valid x.item ≡ true) × (meets o x.item shown.table ≡ false)

pub shown_insert : {K : Type 0} (o : Order K) → IsLawful o
    → (n c : ℕ) (t u : ColouredTree) (old room : ℕ) →
    room + 1 ≡ old → IsPicture o (picture_of n c t old) → (x : Record) (links : List Store) →
    PutsIn o x (rows t) (rows u) → IsRedBlack u → Lead (λ i. i ≡ x.node) c (shape t) (shape u) links
    →
    {shown : Picture} → picture_of n c t old ≡ shown → CanInsert o x shown
    → AfterInsert o n c t u room x links shown
shown_insert o law n c t u old room more is x links puts good lead view can0 =
    let can : CanInsert o x (picture_of n c t old) = subst (CanInsert o x) (sym view) can0 in
    subst (AfterInsert o n c t u room x links) view
    (after_insert o law n c t u old room more is x links puts good lead can.0 can.1 can.2 can.3)

-- a record less
module _ {K : Type 0} (o : Order K) (law : IsLawful o) (n c : ℕ) (t u : ColouredTree) (old room : ℕ)
    (more : room ≡ old + 1) (is : IsPicture o (picture_of n c t old)) (a node : ℕ)
    (links : List Store) (loses : LosesWord a t u node) (good : IsRedBlack u)
    (lead : Lead Nothing c (shape t) (shape u) links)
    (there : has a (items_of_records (rows t)) ≡ true)
  where
    places : (remove (rows t) (place_of a (items_of_records (rows t))) ≡ rows u)
        × (slice_get (rows t) (place_of a (items_of_records (rows t))) ≡ Some loses.row)
    places =
        let was = loses.taken.was in
        let out = taken_out a o law loses.taken.front loses.row loses.taken.back
        (subst (λ rs. IsTable o (items_of_records rs)) was is.is_table) loses.word in (
          ap (λ rs. remove rs (place_of a (items_of_records rs))) was ∙ out.0 ∙ sym loses.taken.now,
          ap (λ rs. slice_get rs (place_of a (items_of_records rs))) was ∙ out.1,
        )

    items_without : items_of_records (rows u) ≡ without a (items_of_records (rows t))
    items_without = ap items_of_records (sym places.0)
        ∙ map-remove (λ r. r.item) (rows t) (place_of a (items_of_records (rows t)))
        ∙ sym (without_place o law a (items_of_records (rows t)) is.is_table there)

    listed_without : listed (shape u)
        ≡ remove (listed (shape t)) (place_of a (items_of_records (rows t)))
    listed_without =
        let p = place_of a (items_of_records (rows t)) in
        listed_rows u ∙ ap (map (λ r. r.node)) (sym places.0)
        ∙ map-remove (λ r. r.node) (rows t) p ∙ ap (λ xs. remove xs p) (sym (listed_rows t))

    led_without : LeadLinks n c (shape t) (shape u) links
    led_without = lead n is.one_copy (record {
      below = λ i h. ⊎_elim (λ e. absurd e) (λ b. all_among (λ j. j < n) (shape t) is.below i b) h;
      free = λ i e b. absurd e;
      separate = separate (shape t) is.distinct;
    })

    picture_without : IsPicture o (picture_of n c u room)
    picture_without =
        let p = place_of a (items_of_records (rows t)) in
        can_be_pictured o n c t u old room is good
        (subst (IsTable o) (sym items_without)
        (without_table o a (items_of_records (rows t)) is.is_table))
        (remove (listed (shape t)) p) listed_without
        (all_remove (λ i. i < n) (listed (shape t)) p is.below)
        (distinct_remove (listed (shape t)) p is.distinct)

    alone_without : (m : List ℕ) → IsPictured m (picture_of n c t old) →
        IsPictured (words_after_all m links) (picture_of n c u room)
    alone_without m shown =
        let p = place_of a (items_of_records (rows t)) in
        leads_to o n c t u old room is links led_without m shown
        (subst (Stored m) places.0
        (all_remove (λ r. item_at m r.node ≡ r.item) (rows t) p
        (items_stored m t shown.holds.listed_items)))

    erases_without : Erases (picture_of n c t old) (picture_of n c u room) a loses.row.node
    erases_without =
        let p = place_of a (items_of_records (rows t)) in
        let x = loses.row in
        let node_at : slice_get (listed (shape t)) p ≡ Some x.node =
        ap (λ xs. slice_get xs p) (listed_rows t)
        ∙ slice_get-map (λ (r : Record). r.node) (rows t) p
        ∙ ap (option_map (λ (r : Record). r.node)) places.1 in
        record {
          capacity = refl;
          copy = refl;
          table = items_without;
          nodes = λ i. (
            (λ h. member_remove (listed (shape t)) p x.node i is.distinct node_at
                (subst (λ xs. Contains xs i) listed_without h)),
            (λ h. subst (λ xs. Contains xs i) (sym listed_without)
                (Contains-remove (listed (shape t)) p x.node i node_at h)),
          );
          in_order = listed_without;
          at_place = node_at;
          had_item = λ m held. ap (λ (i : Item). i.a)
              (all_get (λ r. item_at m r.node ≡ r.item) (rows t) p x
              (items_stored m t held.holds.listed_items) places.1) ∙ loses.word;
          room = more;
        }

    pub after_erase : AfterErase o n c t u room a node links (picture_of n c t old)
    after_erase = record {
      picture = picture_without;
      count = ap (λ xs. suc (length xs)) (sym places.0)
          ∙ length-remove_at (rows t) (place_of a (items_of_records (rows t))) loses.row places.1;
      erases = subst (Erases (picture_of n c t old) (picture_of n c u room) a) loses.number
          erases_without;
      leads = record {
        links_only = record { words = led_without.words; values = led_without.values };
        leads = alone_without;
      };
    }

-- the search on the one way down tells of the pictured table
pub met_none : {K : Type 0} (o : Order K) → IsLawful o → IsInLine o → {i : Item} →
    o.valid i ≡ true → (t : ColouredTree) → IsTable o (items_of_records (rows t)) → {n c room : ℕ} →
    {shown : Picture} → picture_of n c t room ≡ shown
    → meets_on_the_way o i [] t ≡ meets o i shown.table
met_none o law line {i = i} valid t is view = grind (arith, nat_tests, met_meets, without_none)

-- a way down has so few nodes that a cursor has a step for each
pub few_steps : {K : Type 0} (o : Order K) (n c : ℕ) (t : ColouredTree) (room : ℕ) → n ≤ most_nodes
    →
    IsPicture o (picture_of n c t room) → depth (shape t) ≤ 64
few_steps o n c t room small is =
    let d = depth (shape t) in
    let k = length (listed (shape t)) in
    let most : k + 1 ≤ 65537 = omega (arith, small, is.as_many, is.fits) in
    let square : (k + 1) * (k + 1) ≤ 65537 * 65537 = mul-le-mul most most in
    ⊎_elim
    (λ deep. let power : 2 ^ 65 ≤ 2 ^ d = pow-le-pow_right (omega arith) deep in
    absurd (omega (arith, power, square, balanced_depth (shape t) is.balanced)))
    (λ le. le) (cases_lt 64 d)
