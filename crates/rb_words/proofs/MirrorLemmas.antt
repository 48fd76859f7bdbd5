-- What is planned for copy 0 leads copy 1 as well, mirrored: for each memory there is one whose
-- copy 0 is as its copy 1.
use Rattle.rb_words.proofs.Words.{◌≡◌, ◌≢◌, ℕ, suc, zero, ◌<◌, ◌≤◌, false, List, [], ◌∷◌, length}
use Rattle.rb_words.proofs.Words.{refl, sym, ◌∙◌, ap, subst, inl, inr, ⊎_elim, arith, length-set}
use Rattle.rb_words.proofs.Words.{slice_set, ◌==◌, AllByRecursion, ne_eqb, cases_eq, Item, Order}
use Rattle.rb_words.proofs.Words.{Store, Nodes, none, fork, words_for, at, item_at, items, Leads}
use Rattle.rb_words.proofs.Words.{Holds, root_word, left_word, right_word, a_word, b_word, tag_word}
use Rattle.rb_words.proofs.Words.{words_after, words_after_all, IsLinkWord, IsItemWord}
use Rattle.rb_words.proofs.Words.{AreLinkStores, of_item, at_stored, at_other, same_store}
use Rattle.rb_words.proofs.Words.{after_append, Picture, IsPictured, AreLinks, item_stores, Inserts}
use Rattle.rb_words.proofs.Words.{LeadsWithItem, Erases, LeadsByLinks, mirror_word, mirror_store}
use Rattle.rb_words.proofs.Words.{mirror_stores, second_picture, nat_tests}
use Rattle.facts.proofs.Numbers.{below_suc}

-- copy 1 of the second memory is as copy 0 of the first, and the nodes have the same items
record Mirrors (n : ℕ) (m m' : List ℕ) : Type 0 where
  sized : length m ≡ words_for n
  as_long : length m' ≡ length m
  root : at m' (root_word 1) ≡ at m (root_word 0)
  left : (i : ℕ) → i < n → at m' (left_word 1 i) ≡ at m (left_word 0 i)
  right : (i : ℕ) → i < n → at m' (right_word 1 i) ≡ at m (right_word 0 i)
  items : (i w : ℕ) → IsItemWord i w → at m' w ≡ at m w

-- what the one holds the other holds
module _ (n : ℕ) (m m' : List ℕ) (same : Mirrors n m m') where
  leads_there : (link : ℕ) (t : Nodes) → Leads m n 0 link t → Leads m' n 1 link t
  leads_there link none h = h
  leads_there link (fork l i r) h = (
    h.0,
    h.1,
    leads_there (at m' (left_word 1 i)) l
        (subst (λ k. Leads m n 0 k l) (sym (same.left i h.1)) h.2),
    leads_there (at m' (right_word 1 i)) r
        (subst (λ k. Leads m n 0 k r) (sym (same.right i h.1)) h.3),
  )

  leads_back : (link : ℕ) (t : Nodes) → Leads m' n 1 link t → Leads m n 0 link t
  leads_back link none h = h
  leads_back link (fork l i r) h = (
    h.0,
    h.1,
    leads_back (at m (left_word 0 i)) l (subst (λ k. Leads m' n 1 k l) (same.left i h.1) h.2),
    leads_back (at m (right_word 0 i)) r (subst (λ k. Leads m' n 1 k r) (same.right i h.1) h.3),
  )

  same_item : (i : ℕ) → item_at m' i ≡ item_at m i
  same_item i =
      let ea = same.items i (a_word i) (inl refl) in
      let eb = same.items i (b_word i) (inr (inl refl)) in
      let et = same.items i (tag_word i) (inr (inr refl)) in
      λ d. record { a = ea d; b = eb d; tag = et d }

  same_items : (t : Nodes) → items m' t ≡ items m t
  same_items none = refl
  same_items (fork l i r) = grind (arith, nat_tests, same_items l, same_items r, same_item)

  there : (table : List Item) (t : Nodes) → Holds m n 0 table t → Holds m' n 1 table t
  there table t h = record {
    leads = leads_there (at m' (root_word 1)) t
        (subst (λ k. Leads m n 0 k t) (sym same.root) h.leads);
    listed_items = same_items t ∙ h.listed_items;
  }

  back : (table : List Item) (t : Nodes) → Holds m' n 1 table t → Holds m n 0 table t
  back table t h = record {
    leads = leads_back (at m (root_word 0)) t (subst (λ k. Leads m' n 1 k t) same.root h.leads);
    listed_items = sym (same_items t) ∙ h.listed_items;
  }

  pictured_there : (p : Picture) → p.capacity ≡ n → p.copy ≡ 0 → IsPictured m p →
      IsPictured m' (second_picture p)
  pictured_there p en ec is = record {
    sized = same.as_long ∙ is.sized;
    holds = subst (λ k. Holds m' k 1 p.table p.tree) (sym en)
        (there p.table p.tree (subst (λ k. Holds m k 0 p.table p.tree) en
        (subst (λ c. Holds m p.capacity c p.table p.tree) ec is.holds)));
  }

  pictured_back : (p : Picture) → p.capacity ≡ n → p.copy ≡ 0 → IsPictured m' (second_picture p) →
      IsPictured m p
  pictured_back p en ec is = record {
    sized = sym same.as_long ∙ is.sized;
    holds = subst (λ c. Holds m p.capacity c p.table p.tree) (sym ec)
        (subst (λ k. Holds m k 0 p.table p.tree) (sym en)
        (back p.table p.tree (subst (λ k. Holds m' k 1 p.table p.tree) en is.holds)));
  }

-- the mirrored words of links
mirror_root : mirror_word (root_word 0) ≡ root_word 1
mirror_root = refl

mirror_left : (i : ℕ) → mirror_word (left_word 0 i) ≡ left_word 1 i
mirror_left i = let e : (left_word 0 i == root_word 0) ≡ false =
    ne_eqb (left_word 0 i) 1 (λ f. absurd (omega arith)) in rw e (omega arith)

mirror_right : (i : ℕ) → mirror_word (right_word 0 i) ≡ right_word 1 i
mirror_right i = let e : (right_word 0 i == root_word 0) ≡ false =
    ne_eqb (right_word 0 i) 1 (λ f. absurd (omega arith)) in rw e (omega arith)

-- two words, of which the one is written where the other is
written : (m m' : List ℕ) (w w' v x x' : ℕ) → w < length m → w' < length m' → (x ≡ w → x' ≡ w') →
    (x' ≡ w' → x ≡ w) → at m' x' ≡ at m x → at (slice_set m' w' v) x' ≡ at (slice_set m w v) x
written m m' w w' v x x' lt lt' to back e = grind (arith, nat_tests, at_stored, at_other, cases_eq)

-- a link word of copy 0 and the same of copy 1
record Twins (n w w' : ℕ) : Type 0 where
  within : w < words_for n
  within_too : w' < words_for n
  root : (root_word 0 ≡ w → root_word 1 ≡ w') × (root_word 1 ≡ w' → root_word 0 ≡ w)
  left : (i : ℕ) → (left_word 0 i ≡ w → left_word 1 i ≡ w')
      × (left_word 1 i ≡ w' → left_word 0 i ≡ w)
  right : (i : ℕ) → (right_word 0 i ≡ w → right_word 1 i ≡ w')
      × (right_word 1 i ≡ w' → right_word 0 i ≡ w)
  items : (i x : ℕ) → IsItemWord i x → (x ≢ w) × (x ≢ w')

twins : (n w : ℕ) → IsLinkWord n 0 w → Twins n w (mirror_word w)
twins n w is = record {
  within = grind (arith, nat_tests);
  within_too = grind (arith, nat_tests);
  root = (grind (arith, nat_tests), grind (arith, nat_tests));
  left = λ i. (grind (arith, nat_tests), grind (arith, nat_tests));
  right = λ i. (grind (arith, nat_tests), grind (arith, nat_tests));
  items = λ i x of.
      let k = of_item i x of in let kl = k.1 in let ke = k.2 in
      (grind (arith, nat_tests), grind (arith, nat_tests));
}

-- a store in copy 0 and the same in copy 1
twin_stores : (n : ℕ) (m m' : List ℕ) (w w' v : ℕ) → Twins n w w' → Mirrors n m m' →
    Mirrors n (slice_set m w v) (slice_set m' w' v)
twin_stores n m m' w w' v twin same =
    let lt : w < length m = subst (λ k. w < k) (sym same.sized) twin.within in
    let lt' : w' < length m' = subst (λ k. w' < k) (sym (same.as_long ∙ same.sized)) twin.within_too
    in
    record {
      sized = length-set m w v ∙ same.sized;
      as_long = length-set m' w' v ∙ same.as_long ∙ sym (length-set m w v);
      root = written m m' w w' v (root_word 0) (root_word 1) lt lt' twin.root.0 twin.root.1
          same.root;
      left = λ i il. written m m' w w' v (left_word 0 i) (left_word 1 i) lt lt' (twin.left i).0
          (twin.left i).1 (same.left i il);
      right = λ i il. written m m' w w' v (right_word 0 i) (right_word 1 i) lt lt' (twin.right i).0
          (twin.right i).1 (same.right i il);
      items = λ i x is. at_other m' w' v x (twin.items i x is).1 ∙ same.items i x is
          ∙ sym (at_other m w v x (twin.items i x is).0);
    }

links_stored : (n : ℕ) (m m' : List ℕ) (ss : List Store) → AreLinkStores n 0 ss → Mirrors n m m' →
    Mirrors n (words_after_all m ss) (words_after_all m' (mirror_stores ss))
links_stored n m m' [] are same = same
links_stored n m m' (s ∷ ss) are same =
    links_stored n (words_after m s) (words_after m' (mirror_store s)) ss are.1
    (twin_stores n m m' s.word (mirror_word s.word) s.value (twins n s.word are.0) same)

-- the same store of an item's word in both
item_stored : (n : ℕ) (m m' : List ℕ) (node w v : ℕ) → IsItemWord node w → Mirrors n m m' →
    Mirrors n (slice_set m w v) (slice_set m' w v)
item_stored n m m' node w v of same =
    let k = of_item node w of in
    let kl = k.1 in
    let ke = k.2 in
    record {
      sized = length-set m w v ∙ same.sized;
      as_long = length-set m' w v ∙ same.as_long ∙ sym (length-set m w v);
      root = at_other m' w v (root_word 1) (λ e. absurd (omega arith)) ∙ same.root
          ∙ sym (at_other m w v (root_word 0) (λ e. absurd (omega arith)));
      left = λ i il. at_other m' w v (left_word 1 i) (λ e. absurd (omega arith)) ∙ same.left i il
          ∙ sym (at_other m w v (left_word 0 i) (λ e. absurd (omega arith)));
      right = λ i il. at_other m' w v (right_word 1 i) (λ e. absurd (omega arith)) ∙ same.right i il
          ∙ sym (at_other m w v (right_word 0 i) (λ e. absurd (omega arith)));
      items = λ i x is. same_store m m' w v x same.as_long (same.items i x is);
    }

items_stored : (n : ℕ) (m m' : List ℕ) (node : ℕ) (i : Item) → Mirrors n m m' →
    Mirrors n (words_after_all m (item_stores node i)) (words_after_all m' (item_stores node i))
items_stored n m m' node i same =
    let m1 = slice_set m (a_word node) i.a in
    let m1' = slice_set m' (a_word node) i.a in
    let m2 = slice_set m1 (b_word node) i.b in
    let m2' = slice_set m1' (b_word node) i.b in
    item_stored n m2 m2' node (tag_word node) i.tag (inr (inr refl))
    (item_stored n m1 m1' node (b_word node) i.b (inr (inl refl))
    (item_stored n m m' node (a_word node) i.a (inl refl) same))

-- a memory with the links of copy 1 in copy 0 too: the root's and those of the first k nodes
copied : ℕ → List ℕ → List ℕ
copied zero m = slice_set m (root_word 0) (at m (root_word 1))
copied (suc k) m = slice_set (slice_set (copied k m) (left_word 0 k) (at m (left_word 1 k)))
    (right_word 0 k) (at m (right_word 1 k))

-- its first k nodes are copied, and its items are as they were
record Copied (k : ℕ) (m m' : List ℕ) : Type 0 where
  as_long : length m' ≡ length m
  root : at m (root_word 1) ≡ at m' (root_word 0)
  left : (i : ℕ) → i < k → at m (left_word 1 i) ≡ at m' (left_word 0 i)
  right : (i : ℕ) → i < k → at m (right_word 1 i) ≡ at m' (right_word 0 i)
  items : (i w : ℕ) → IsItemWord i w → at m w ≡ at m' w

-- one more node: at the node copied last its own links, at those before it theirs
copied_next : (n k : ℕ) (m m' : List ℕ) → k < n → length m ≡ words_for n → Copied k m m' →
    Copied (suc k) m (slice_set (slice_set m' (left_word 0 k) (at m (left_word 1 k)))
    (right_word 0 k) (at m (right_word 1 k)))
copied_next n k m m' lt sized is =
    let wl = left_word 0 k in
    let wr = right_word 0 k in
    let vl = at m (left_word 1 k) in
    let vr = at m (right_word 1 k) in
    let m1 = slice_set m' wl vl in
    let m2 = slice_set m1 wr vr in
    let len1 : length m1 ≡ words_for n = length-set m' wl vl ∙ is.as_long ∙ sized in
    let stays : (w : ℕ) → w ≢ wl → w ≢ wr → at m' w ≡ at m2 w =
    λ w nl nr. sym (at_other m1 wr vr w nr ∙ at_other m' wl vl w nl) in
    let here_left : vl ≡ at m2 wl =
    sym (at_other m1 wr vr wl (λ e. absurd (omega arith))
    ∙ at_stored m' wl vl (omega (arith, is.as_long, sized))) in
    let here_right : vr ≡ at m2 wr = sym (at_stored m1 wr vr (omega (arith, len1))) in
    record {
      as_long = length-set m1 wr vr ∙ length-set m' wl vl ∙ is.as_long;
      root = is.root ∙ stays (root_word 0) (λ e. absurd (omega arith)) (λ e. absurd (omega arith));
      left = below_suc (λ i. at m (left_word 1 i) ≡ at m2 (left_word 0 i)) k here_left
          (λ i il. is.left i il ∙ stays (left_word 0 i) (λ e. absurd (omega (arith, il, e)))
          (λ e. absurd (omega arith)));
      right = below_suc (λ i. at m (right_word 1 i) ≡ at m2 (right_word 0 i)) k here_right
          (λ i il. is.right i il ∙ stays (right_word 0 i) (λ e. absurd (omega arith))
          (λ e. absurd (omega (arith, il, e))));
      items = λ i w of.
          let x = of_item i w of in
          let xl = x.1 in
          let xe = x.2 in
          is.items i w of ∙ stays w (λ e. absurd (omega arith)) (λ e. absurd (omega arith));
    }

copied_to : (n k : ℕ) (m : List ℕ) → k ≤ n → length m ≡ words_for n → Copied k m (copied k m)
unfolding copied
copied_to n zero m le sized = record {
  as_long = length-set m (root_word 0) (at m (root_word 1));
  root = sym (at_stored m (root_word 0) (at m (root_word 1)) (omega (arith, sized)));
  left = λ i lt. absurd (omega arith);
  right = λ i lt. absurd (omega arith);
  items = λ i w of.
      let x = of_item i w of in
      let xe = x.2 in
      sym (at_other m (root_word 0) (at m (root_word 1)) w (λ e. absurd (omega arith)));
}
copied_to n (suc k) m le sized =
    copied_next n k m (copied k m) (omega (arith, le)) sized
    (copied_to n k m (omega (arith, le)) sized)

-- a memory is mirrored by the one whose copy 0 is made as its copy 1
mirrors : (n : ℕ) (m : List ℕ) → length m ≡ words_for n → Mirrors n (copied n m) m
mirrors n m sized =
    let c = copied_to n n m (omega arith) sized in
    record {
      sized = c.as_long ∙ sized;
      as_long = sym c.as_long;
      root = c.root;
      left = c.left;
      right = c.right;
      items = c.items;
    }

-- what stores do to the one they do, mirrored, to the other
module _ (old new : Picture) (zero_copy : old.copy ≡ 0) (capacity : new.capacity ≡ old.capacity)
    (same_copy : new.copy ≡ old.copy) where
  new_zero : new.copy ≡ 0
  new_zero = same_copy ∙ zero_copy

  -- a memory whose copy 1 is pictured, and the one whose copy 0 is
  beside : (m : List ℕ) → IsPictured m (second_picture old)
      → Mirrors old.capacity (copied old.capacity m) m
  beside m shown = mirrors old.capacity m shown.sized

  first_shown : (m : List ℕ) → IsPictured m (second_picture old)
      → IsPictured (copied old.capacity m) old
  first_shown m shown = pictured_back old.capacity (copied old.capacity m) m (beside m shown) old
      refl zero_copy shown

  links_zero : (links : List Store) → AreLinks old links → AreLinkStores old.capacity 0 links
  links_zero links are = subst (λ c. AreLinkStores old.capacity c links) zero_copy are.words

  mirror_links : (links : List Store) → AreLinks old links
      → AreLinks (second_picture old) (mirror_stores links)
  mirror_links links are = record
      { words = words_of links (links_zero links are); values = values_of links are.values }
    where
      words_of : (ss : List Store) → AreLinkStores old.capacity 0 ss →
          AreLinkStores old.capacity 1 (mirror_stores ss)
      words_of [] h = tt
      words_of (s ∷ ss) h = (
        ⊎_elim
            (λ e. inl (ap mirror_word e ∙ mirror_root))
            (λ (j, lt, f). inr (
              j,
              lt,
              ⊎_elim (λ e. inl (ap mirror_word e ∙ mirror_left j))
                  (λ e. inr (ap mirror_word e ∙ mirror_right j)) f,
            ))
            h.0,
        words_of ss h.1,
      )

      values_of : (ss : List Store) → AllByRecursion (λ (s : Store). s.value ≤ old.capacity) ss →
          AllByRecursion (λ (s : Store). s.value ≤ old.capacity) (mirror_stores ss)
      values_of [] h = tt
      values_of (s ∷ ss) h = (h.0, values_of ss h.1)

  shown_after : (m m' : List ℕ) → Mirrors old.capacity m m' → IsPictured m new →
      IsPictured m' (second_picture new)
  shown_after m m' same shown = pictured_there old.capacity m m' same new capacity new_zero shown

  pub by_links_mirrored : (links : List Store) → LeadsByLinks old new links →
      LeadsByLinks (second_picture old) (second_picture new) (mirror_stores links)
  by_links_mirrored links leads = record {
    links_only = mirror_links links leads.links_only;
    leads = λ m shown.
        let first = copied old.capacity m in
        shown_after (words_after_all first links) (words_after_all m (mirror_stores links))
        (links_stored old.capacity first m links (links_zero links leads.links_only)
        (beside m shown)) (leads.leads first (first_shown m shown));
  }

  pub with_item_mirrored : (node : ℕ) (item : Item) (links : List Store) →
      LeadsWithItem old new node item links →
      LeadsWithItem (second_picture old) (second_picture new) node item (mirror_stores links)
  with_item_mirrored node item links leads =
      let n = old.capacity in
      let stores = item_stores node item in
      let zero_links = links_zero links leads.links_only in
      record {
        links_only = mirror_links links leads.links_only;
        leads = λ m shown.
            let first = copied n m in
            let put = items_stored n first m node item (beside m shown) in
            let linked = links_stored n (words_after_all first stores) (words_after_all m stores)
            links zero_links put in
            subst (λ w. IsPictured w (second_picture new))
            (sym (after_append m stores (mirror_stores links)))
            (shown_after (words_after_all (words_after_all first stores) links)
            (words_after_all (words_after_all m stores) (mirror_stores links)) linked
            (subst (λ w. IsPictured w new) (after_append first stores links)
            (leads.leads first (first_shown m shown))));
        leads_alone = λ m shown has.
            let first = copied n m in
            let same = beside m shown in
            shown_after (words_after_all first links) (words_after_all m (mirror_stores links))
            (links_stored n first m links zero_links same)
            (leads.leads_alone first (first_shown m shown)
            (sym (same_item n first m same node) ∙ has));
      }

-- an insert puts the same item in the same place of both
pub inserts_mirrored : {K : Type 0} (o : Order K) (old new : Picture) (node : ℕ) (item : Item) →
    Inserts o old new node item → Inserts o (second_picture old) (second_picture new) node item
inserts_mirrored o old new node item is = record {
  capacity = is.capacity;
  copy = refl;
  table = is.table;
  nodes = is.nodes;
  in_order = is.in_order;
  room = is.room;
}

-- an erase takes the same item from the same place
pub erases_mirrored : (old new : Picture) (a node : ℕ) → old.copy ≡ 0 → Erases old new a node →
    Erases (second_picture old) (second_picture new) a node
erases_mirrored old new a node zero_copy is = record {
  capacity = is.capacity;
  copy = refl;
  table = is.table;
  nodes = is.nodes;
  in_order = is.in_order;
  at_place = is.at_place;
  had_item = λ m shown.
      let first = copied old.capacity m in
      let same = mirrors old.capacity m shown.sized in
      ap (λ (i : Item). i.a) (same_item old.capacity first m same node)
      ∙ is.had_item first (first_shown old new zero_copy is.capacity is.copy m shown);
  room = is.room;
}
