-- The nodes of a memory, and several changes of both copies, one after another.
use Rattle.latch_core.proofs.Words.{◌≡◌, ◌≢◌, ℕ, ◌+◌, ◌<◌, ◌≤◌, true, false, List, [], ◌∷◌, ◌++◌}
use Rattle.latch_core.proofs.Words.{length, take, drop, get_or, refl, sym, ◌∙◌, ap, subst, inl, inr}
use Rattle.latch_core.proofs.Words.{arith, append_assoc, Some, length-append, not, ◌==◌, Contains}
use Rattle.latch_core.proofs.Words.{insert, nat_eq, remove, slice_get, AllByRecursion, list_any}
use Rattle.latch_core.proofs.Words.{swap_remove, All-contains_itself, recursion_from_All, All-nil}
use Rattle.latch_core.proofs.Words.{All-push, All-weaker, All-head, Contains-append_left, not-false}
use Rattle.latch_core.proofs.Words.{or_parts, map-append, take_more, drop_more, IsPermutation-trans}
use Rattle.latch_core.proofs.Words.{IsPermutation-append_left, IsPermutation-append_comm}
use Rattle.latch_core.proofs.Words.{IsPermutation-swap_remove, IsPermutation-insert}
use Rattle.latch_core.proofs.Words.{IsPermutation-remove, IsPermutation-append_right}
use Rattle.latch_core.proofs.Words.{All-permutation, length_permutation, Item, Order, IsLawful}
use Rattle.latch_core.proofs.Words.{without, without_all, with_item, has, place_for, place_of}
use Rattle.latch_core.proofs.Words.{without_none, all_append, all_left, all_right, all_weaker}
use Rattle.latch_core.proofs.Words.{all_at, take-swap_remove, pushed_before, all_fail}
use Rattle.latch_core.proofs.Words.{list_any-above, all_has_without, length_without_one}
use Rattle.latch_core.proofs.Words.{without_more, same_item, Store, item_at, listed}
use Rattle.latch_core.proofs.Words.{words_after_all, AreLinkStores, IsLinkWord, IsItemWord}
use Rattle.latch_core.proofs.Words.{link_no_item, after_append, untouched, Picture, IsPictured}
use Rattle.latch_core.proofs.Words.{Inserts, Erases, LeadsWithItem, LeadsByLinks, item_stores}
use Rattle.latch_core.proofs.Words.{mirror_stores, mirror_store, second_picture, AreDistinct}
use Rattle.latch_core.proofs.Words.{some_missing, some_twice, some_invalid, some_overlap, some_meet}
use Rattle.latch_core.proofs.Words.{with_items, AreAllNodes, PlacedItems, stores_of_placed}
use Rattle.latch_core.proofs.Words.{AreInPlace, RelinksCopy, RelinksBoth, ErasesWords, InsertsItems}
use Rattle.latch_core.proofs.Words.{AreApart, AreOff, all_valid, all_apart, all_off, still_off}
use Rattle.latch_core.proofs.Words.{IsPermutation, nat_tests, slice_get_within, slice_get-get_or}
use Rattle.latch_core.proofs.Words.{IsDistinct-IsPermutation, IsDistinct-push, IsDistinct-head}
use Rattle.std.specs.List.{IsDistinct}
use Rattle.std.proofs.Common.{◌-◌}
use Rattle.std.specs.Prelude.{map}
use Rattle.std.proofs.lemmas.Bool.{eq-eqb}
use Rattle.std.proofs.lemmas.List.{append-nil}
use Rattle.rb_words.proofs.MirrorLemmas.{inserts_mirrored, with_item_mirrored, erases_mirrored}
use Rattle.rb_words.proofs.MirrorLemmas.{by_links_mirrored}
use Rattle.std.specs.Cmp.{nat_eq_equiv}

pub no_nodes : AreAllNodes 0 []
unfolding IsDistinct
no_nodes = record { below = All-nil (λ i. i < 0); distinct = tt; as_many = refl }

pub one_node_more : (i : ℕ) (xs : List ℕ) → AreAllNodes i xs → AreAllNodes (i + 1) (xs ++ i ∷ [])
one_node_more i xs are =
    record {
      below = All-push (λ x. x < i + 1) xs i
          (All-weaker (λ x. x < i) (λ x. x < i + 1) (λ x lt. omega arith) xs are.below)
          (omega arith);
      distinct = IsDistinct-push nat_eq_equiv xs i are.distinct (list_any-above i xs are.below);
      as_many = omega (arith, length-append xs (i ∷ []), are.as_many);
    }

-- in another order they are the same
pub moved_nodes : (n : ℕ) (xs ys : List ℕ) → IsPermutation xs ys → AreAllNodes n xs
    → AreAllNodes n ys
moved_nodes n xs ys p are =
    record {
      below = All-permutation (λ i. i < n) xs ys p are.below;
      distinct =
          IsDistinct-IsPermutation nat_eq (λ x y. grind (arith, nat_tests)) xs ys p are.distinct;
      as_many = length_permutation xs ys p ∙ are.as_many;
    }

-- the last free node is one of the memory's and none of the tree's
pub last_is_free : (n node : ℕ) (rest nodes : List ℕ) → AreAllNodes n ((rest ++ node ∷ []) ++ nodes)
    → (node < n) × (Contains nodes node → ⊥)
last_is_free n node rest nodes are =
    let first = moved_nodes n (rest ++ node ∷ nodes) (node ∷ nodes ++ rest)
    (IsPermutation-append_comm rest (node ∷ nodes))
    (subst (AreAllNodes n) (pushed_before node rest nodes) are) in (
      All-head (λ i. i < n) node (nodes ++ rest) first.below,
      λ is.
          let differ : nat_eq node node ≡ false =
          all_at (λ y. nat_eq node y ≡ false) (nodes ++ rest) node (IsDistinct-head nat_eq node
          (nodes ++ rest) first.distinct) (Contains-append_left nodes rest node is) in
          let same : nat_eq node node ≡ true = eq-eqb node node refl in
          absurd (let no : true ≡ false = sym same ∙ differ in cc),
    )

-- one node more is free
pub one_free_more : (i : ℕ) (free nodes : List ℕ) → AreAllNodes i (free ++ nodes)
    → AreAllNodes (i + 1) ((free ++ i ∷ []) ++ nodes)
one_free_more i free nodes are =
    subst (AreAllNodes (i + 1)) (sym (pushed_before i free nodes))
    (moved_nodes (i + 1) (free ++ (nodes ++ i ∷ [])) (free ++ i ∷ nodes)
    (IsPermutation-append_right free (nodes ++ i ∷ []) (i ∷ nodes)
    (IsPermutation-append_comm nodes (i ∷ [])))
    (subst (AreAllNodes (i + 1)) (append_assoc free nodes (i ∷ []))
    (one_node_more i (free ++ nodes) are)))

-- it goes into the tree
pub node_taken : (n node place : ℕ) (rest nodes : List ℕ)
    → AreAllNodes n ((rest ++ node ∷ []) ++ nodes) → AreAllNodes n (rest ++ insert nodes place node)
node_taken n node place rest nodes are =
    moved_nodes n (rest ++ node ∷ nodes) (rest ++ insert nodes place node)
    (IsPermutation-append_right rest (node ∷ nodes) (insert nodes place node)
    (IsPermutation-insert nodes place node))
    (subst (AreAllNodes n) (pushed_before node rest nodes) are)

-- and comes back
pub node_freed : (n node place : ℕ) (free nodes : List ℕ) → slice_get nodes place ≡ Some node
    → AreAllNodes n (free ++ nodes) → AreAllNodes n ((free ++ node ∷ []) ++ remove nodes place)
node_freed n node place free nodes is are =
    let within : place < length nodes = slice_get_within nodes place node is in
    let here : node ≡ get_or nodes place node =
    (let e = sym is ∙ slice_get-get_or nodes place node within in cc) in
    subst (AreAllNodes n) (sym (pushed_before node free (remove nodes place)))
    (moved_nodes n (free ++ nodes) (free ++ node ∷ remove nodes place)
    (IsPermutation-append_right free nodes (node ∷ remove nodes place)
    (IsPermutation-remove nodes place node within here))
    are)

placed_kept : (m : List ℕ) (n copy : ℕ) (links : List Store) → copy ≤ 1 → AreLinkStores n copy links
    → (placed : PlacedItems) → AreInPlace m placed → AreInPlace (words_after_all m links) placed
placed_kept m n copy links c are placed h =
    all_weaker (λ (p : ℕ × Item). item_at m p.0 ≡ p.1)
    (λ (p : ℕ × Item). item_at (words_after_all m links) p.0 ≡ p.1)
    (λ p e. same_item m (words_after_all m links) p.0 (untouched (IsItemWord p.0) m links
    (all_weaker (λ (s : Store). IsLinkWord n copy s.word) (λ (s : Store). IsItemWord p.0 s.word
    → ⊥) (λ s l i. link_no_item n copy p.0 s.word c l i) links are)) ∙ e)
    placed h

-- one change after another
pub beside_then : (a b c : Picture) (p q : PlacedItems) (xs ys : List Store) → a.copy ≤ 1
    → RelinksCopy a b p xs → RelinksCopy b c q ys → RelinksCopy a c (p ++ q) (xs ++ ys)
beside_then a b c p q xs ys one first next =
    record {
      capacity = next.capacity ∙ first.capacity;
      copy = next.copy ∙ first.copy;
      links_only =
          all_append (λ (s : Store). IsLinkWord a.capacity a.copy s.word) xs ys first.links_only
          (subst (λ k. AreLinkStores k a.copy ys) first.capacity
          (subst (λ k. AreLinkStores b.capacity k ys) first.copy next.links_only));
      leads = λ m is h.
          subst (λ w. IsPictured w c) (sym (after_append m xs ys))
          (next.leads (words_after_all m xs)
          (first.leads m is (all_left (λ (r : ℕ × Item). item_at m r.0 ≡ r.1) p q h))
          (placed_kept m a.capacity a.copy xs one first.links_only q
          (all_right (λ (r : ℕ × Item). item_at m r.0 ≡ r.1) p q h)));
    }

pub both_then : (a b c : Picture) (p q : PlacedItems) (xs ys : List Store) → a.copy ≡ 0
    → RelinksBoth a b p xs → RelinksBoth b c q ys → RelinksBoth a c (p ++ q) (xs ++ ys)
both_then a b c p q xs ys e first next =
    record {
      zero = beside_then a b c p q xs ys (omega (arith, e)) first.zero next.zero;
      one =
          subst (RelinksCopy (second_picture a) (second_picture c) (p ++ q))
          (sym (map-append mirror_store xs ys))
          (beside_then (second_picture a) (second_picture b) (second_picture c) p q
          (mirror_stores xs) (mirror_stores ys) (omega arith) first.one next.one);
    }

-- nothing changes
beside_none : (a : Picture) → RelinksCopy a a [] []
beside_none a = record { capacity = refl; copy = refl; links_only = tt; leads = λ m is h. is }

pub both_none : (a : Picture) → RelinksBoth a a [] []
both_none a = record { zero = beside_none a; one = beside_none (second_picture a) }

-- one insert, and one erase
beside_insert : {K : Type 0} (o : Order K) (a b : Picture) (node : ℕ) (item : Item)
    (links : List Store) → Inserts o a b node item → LeadsWithItem a b node item links
    → RelinksCopy a b ((node, item) ∷ []) links
beside_insert o a b node item links ins leads =
    record {
      capacity = ins.capacity;
      copy = ins.copy;
      links_only = leads.links_only.words;
      leads = λ m is h. leads.leads_alone m is h.0;
    }

beside_erase : (a b : Picture) (w node : ℕ) (links : List Store) → Erases a b w node
    → LeadsByLinks a b links → RelinksCopy a b [] links
beside_erase a b w node links er leads =
    record {
      capacity = er.capacity;
      copy = er.copy;
      links_only = leads.links_only.words;
      leads = λ m is h. leads.leads m is;
    }

pub both_insert : {K : Type 0} (o : Order K) (a b : Picture) (node : ℕ) (item : Item)
    (links : List Store) → a.copy ≡ 0 → Inserts o a b node item → LeadsWithItem a b node item links
    → RelinksBoth a b ((node, item) ∷ []) links
both_insert o a b node item links e ins leads =
    record {
      zero = beside_insert o a b node item links ins leads;
      one = beside_insert o (second_picture a) (second_picture b) node item (mirror_stores links)
          (inserts_mirrored o a b node item ins)
          (with_item_mirrored a b e ins.capacity ins.copy node item links leads);
    }

pub both_erase : (a b : Picture) (w node : ℕ) (links : List Store) → a.copy ≡ 0 → Erases a b w node
    → LeadsByLinks a b links → RelinksBoth a b [] links
both_erase a b w node links e er leads =
    record {
      zero = beside_erase a b w node links er leads;
      one = beside_erase (second_picture a) (second_picture b) w node (mirror_stores links)
          (erases_mirrored a b w node e er)
          (by_links_mirrored a b e er.capacity er.copy links leads);
    }

pub all_there : (words : List ℕ) (xs : List Item) → some_missing words xs ≡ false
    → AllByRecursion (λ b. has b xs ≡ true) words
all_there words xs e =
    all_weaker (λ b. not (has b xs) ≡ false) (λ b. has b xs ≡ true) (λ b f. not-false (has b xs) f)
    words (all_fail (λ b. not (has b xs)) words e)

-- as many of the first words are erased
pub record Erasing (old now : Picture) (erase : List ℕ) (j : ℕ) (out out' : List Store)
    (free free' : List ℕ) : Type 0 where
  pub more : List Store
  pub appended : out' ≡ out ++ more
  pub done : ErasesWords old now (take j erase) more free free'
  pub there : AllByRecursion (λ b. has b now.table ≡ true) (drop j erase)
  pub once : some_twice (drop j erase) ≡ false

pub erasing_none : (old : Picture) (erase : List ℕ) (out : List Store) (free : List ℕ)
    → some_missing erase old.table ≡ false → some_twice erase ≡ false
    → AreAllNodes old.capacity (free ++ listed old.tree) → Erasing old old erase 0 out out free free
erasing_none old erase out free there once nodes =
    record {
      more = [];
      appended = sym (append-nil out);
      done = record {
        table = sym (without_none old.table);
        both = both_none old;
        freed = [];
        behind = sym (append-nil free);
        nodes = nodes;
      };
      there = all_there erase old.table there;
      once = once;
    }

pub erasing_step : (old now next : Picture) (erase : List ℕ) (j a node : ℕ)
    (out out' out'' : List Store) (free free' free'' : List ℕ) (links : List Store)
    → old.copy ≡ 0 → j < length erase → a ≡ get_or erase j 0
    → Erasing old now erase j out out' free free'
    → Erases now next a node → out'' ≡ out' ++ links → LeadsByLinks now next links
    → free'' ≡ free' ++ node ∷ []
    → Erasing old next erase (j + 1) out out'' free free''
erasing_step old now next erase j a node out out' out'' free free' free'' links first lt is state er
    eo leads ef =
    let rest = drop (j + 1) erase in
    let done = state.done in
    let here : drop j erase ≡ a ∷ rest = drop_more erase j 0 lt ∙ ap (λ b. b ∷ rest) (sym is) in
    let front : take (j + 1) erase ≡ take j erase ++ a ∷ [] =
    take_more erase j 0 lt ∙ ap (λ b. take j erase ++ b ∷ []) (sym is) in
    let two = or_parts (list_any (λ b. b == a) rest) (some_twice rest)
    (ap some_twice (sym here) ∙ state.once) in
    let there = subst (AllByRecursion (λ b. has b now.table ≡ true)) here state.there in
    record {
      more = state.more ++ links;
      appended = eo ∙ ap (λ xs. xs ++ links) state.appended ∙ append_assoc out state.more links;
      done = record {
        table = er.table ∙ ap (without a) done.table ∙ sym (without_more (take j erase) a old.table)
            ∙ ap (λ ws. without_all ws old.table) (sym front);
        both = both_then old now next [] [] state.more links first done.both
            (both_erase now next a node links (done.both.zero.copy ∙ first) er leads);
        freed = done.freed ++ node ∷ [];
        behind =
            ef ∙ ap (λ xs. xs ++ node ∷ []) done.behind ∙ append_assoc free done.freed (node ∷ []);
        nodes = subst (λ xs. AreAllNodes old.capacity (xs ++ listed next.tree)) (sym ef)
            (subst (λ ns. AreAllNodes old.capacity ((free' ++ node ∷ []) ++ ns)) (sym er.in_order)
            (node_freed old.capacity node (place_of a now.table) free' (listed now.tree) er.at_place
            done.nodes));
      };
      there = subst (λ t. AllByRecursion (λ b. has b t ≡ true) rest) (sym er.table)
          (all_has_without a rest now.table two.0 there.1);
      once = two.1;
    }

-- a node that is taken out of the free ones
pub taken_out : (n : ℕ) (free nodes : List ℕ) (i node : ℕ) → i < length free
    → node ≡ get_or free i node → AreAllNodes n (free ++ nodes)
    → AreAllNodes n ((swap_remove free i node ++ node ∷ []) ++ nodes)
taken_out n free nodes i node lt is are =
    let rest = swap_remove free i node in
    let moved = IsPermutation-trans free (node ∷ rest) (rest ++ node ∷ [])
    (IsPermutation-swap_remove free i node lt is) (IsPermutation-append_comm (node ∷ []) rest) in
    moved_nodes n (free ++ nodes) ((rest ++ node ∷ []) ++ nodes)
    (IsPermutation-append_left nodes free (rest ++ node ∷ []) moved) are

distinct_push : (xs : List ℕ) (x : ℕ) → AreDistinct xs → AllByRecursion (λ y. y ≢ x) xs
    → AreDistinct (xs ++ x ∷ [])
distinct_push [] x d a = (tt, tt)
distinct_push (y ∷ ys) x d a =
    (all_append (λ z. y ≢ z) ys (x ∷ []) d.0 (a.0, tt), distinct_push ys x d.1 a.1)

placing_more : (placed : PlacedItems) (node : ℕ) (item : Item)
    → stores_of_placed (placed ++ (node, item) ∷ [])
    ≡ stores_of_placed placed ++ item_stores node item
placing_more [] node item = append-nil (item_stores node item)
placing_more (p ∷ rest) node item =
    grind (arith, nat_tests, placing_more rest node item, append_assoc)

with_more : {K : Type 0} (o : Order K) (items : List Item) (i : Item) (table : List Item)
    → with_items o (items ++ i ∷ []) table ≡ with_item o i (with_items o items table)
with_more o [] i table = refl
with_more o (x ∷ items) i table = with_more o items i (with_item o x table)

-- as many of the items are inserted
pub record Inserting {K : Type 0} (o : Order K) (old now : Picture) (insert : List Item)
    (j fresh : ℕ) (left left' out out' : List Store) (free free' : List ℕ) : Type 0 where
  pub placed : PlacedItems
  pub more : List Store
  pub planned : left' ≡ left ++ stores_of_placed placed
  pub appended : out' ≡ out ++ more
  pub done : InsertsItems o old now (take j insert) placed more (take fresh free) free'
  pub valid : AllByRecursion (λ i. o.valid i ≡ true) (drop j insert)
  pub apart : AreApart o (drop j insert)
  pub off : AreOff o (drop j insert) now.table
  pub first : AllByRecursion (λ node. Contains (take fresh free) node) (take (fresh - j) free')

pub inserting_none : {K : Type 0} (o : Order K) (old : Picture) (insert : List Item) (fresh : ℕ)
    (left out : List Store) (free : List ℕ) → some_invalid o insert ≡ false
    → some_overlap o insert ≡ false → some_meet o insert old.table ≡ false
    → AreAllNodes old.capacity (free ++ listed old.tree)
    → Inserting o old old insert 0 fresh left left out out free free
inserting_none o old insert fresh left out free valid apart off nodes =
    record {
      placed = [];
      more = [];
      planned = sym (append-nil left);
      appended = sym (append-nil out);
      done = record {
        table = refl;
        both = both_none old;
        in_fresh = tt;
        in_tree = tt;
        distinct = tt;
        nodes = nodes;
      };
      valid = all_valid o insert valid;
      apart = all_apart o insert apart;
      off = all_off o insert old.table off;
      first = subst (λ k. AllByRecursion (λ node. Contains (take fresh free) node) (take k free))
          (let none : fresh ≡ fresh - 0 = omega arith in none) (recursion_from_All (λ node. Contains
          (take fresh free) node) (take fresh free) (All-contains_itself (take fresh free)));
    }

-- the node that the next item takes, and what it finds there
pub record IsFresh (n : ℕ) (free rest : List ℕ) (nodes : List ℕ) (first : List ℕ) (node : ℕ) : Type
    0 where
  pub in_range : node < n
  pub not_there : Contains nodes node → ⊥
  pub in_first : Contains first node
  pub shared : AreAllNodes n ((rest ++ node ∷ []) ++ nodes)

pub next_node : {K : Type 0} (o : Order K) (old now : Picture) (insert : List Item) (j fresh : ℕ)
    (left left' out out' : List Store) (free free' : List ℕ) (node : ℕ)
    → Inserting o old now insert j fresh left left' out out' free free' → j < fresh
    → fresh - 1 - j < length free' → node ≡ get_or free' (fresh - 1 - j) node
    → IsFresh old.capacity free' (swap_remove free' (fresh - 1 - j) node) (listed now.tree)
    (take fresh free) node
next_node o old now insert j fresh left left' out out' free free' node state lt within is =
    let shared = taken_out old.capacity free' (listed now.tree) (fresh - 1 - j) node within is
    state.done.nodes in
    let last = last_is_free old.capacity node (swap_remove free' (fresh - 1 - j) node)
    (listed now.tree) shared in
    let same : fresh - j ≡ fresh - 1 - j + 1 = omega arith in
    let firsts : take (fresh - j) free' ≡ take (fresh - 1 - j) free' ++ node ∷ [] =
    ap (λ k. take k free') same ∙ take_more free' (fresh - 1 - j) node within
    ∙ ap (λ x. take (fresh - 1 - j) free' ++ x ∷ []) (sym is) in
    record {
      in_range = last.0;
      not_there = last.1;
      in_first =
          (all_right (λ x. Contains (take fresh free) x) (take (fresh - 1 - j) free') (node ∷ [])
          (subst (AllByRecursion (λ x. Contains (take fresh free) x)) firsts state.first)).0;
      shared = shared;
    }

pub inserting_step : {K : Type 0} (o : Order K) → IsLawful o
    → (old now next : Picture) (insert : List Item) (j fresh : ℕ) (item d : Item) (node : ℕ) (left
    left' left'' out out' out'' : List Store) (free free' free'' : List ℕ) (links : List Store)
    → old.copy ≡ 0 → j < length insert → j < fresh → fresh - 1 - j < length free'
    → item ≡ get_or insert j d → node ≡ get_or free' (fresh - 1 - j) node
    → Inserting o old now insert j fresh left left' out out' free free'
    → Inserts o now next node item → LeadsWithItem now next node item links
    → left'' ≡ left' ++ item_stores node item → out'' ≡ out' ++ links
    → free'' ≡ swap_remove free' (fresh - 1 - j) node
    → Inserting o old next insert (j + 1) fresh left left'' out out'' free free''
inserting_step o law old now next insert j fresh item d node left left' left'' out out' out'' free
    free' free'' links first lt room within is taken state ins leads el eo ef =
    let here : drop j insert ≡ item ∷ drop (j + 1) insert =
    drop_more insert j d lt ∙ ap (λ b. b ∷ drop (j + 1) insert) (sym is) in
    let front : take (j + 1) insert ≡ take j insert ++ item ∷ [] =
    take_more insert j d lt ∙ ap (λ b. take j insert ++ b ∷ []) (sym is) in
    let fresh_node = next_node o old now insert j fresh left left' out out' free free' node state
    room within taken in
    let copy : now.copy ≡ 0 = state.done.both.zero.copy ∙ first in
    let apart = subst (AreApart o) here state.apart in
    let off = subst (λ xs. AreOff o xs now.table) here state.off in
    let valid = subst (AllByRecursion (λ i. o.valid i ≡ true)) here state.valid in
    let placed = state.placed ++ (node, item) ∷ [] in
    let in_old = all_weaker (λ (p : ℕ × Item). Contains (listed now.tree) p.0)
    (λ (p : ℕ × Item). Contains (listed next.tree) p.0) (λ p c. (ins.nodes p.0).1 (inr c))
    state.placed state.done.in_tree in
    let others = nodes_differ node state.placed
    (all_weaker (λ (p : ℕ × Item). Contains (listed now.tree) p.0) (λ (p : ℕ × Item).
    p.0 ≢ node) (λ p c e. fresh_node.not_there (subst (Contains (listed now.tree)) e c))
    state.placed state.done.in_tree) in
    record {
      placed = placed;
      more = state.more ++ links;
      planned = el ∙ ap (λ xs. xs ++ item_stores node item) state.planned
          ∙ append_assoc left (stores_of_placed state.placed) (item_stores node item)
          ∙ ap (λ xs. left ++ xs) (sym (placing_more state.placed node item));
      appended = eo ∙ ap (λ xs. xs ++ links) state.appended ∙ append_assoc out state.more links;
      done =
          subst (λ ns. InsertsItems o old next (take (j + 1) insert) placed (state.more ++ links)
          (take fresh free) ns) (sym ef)
          (subst (λ xs. InsertsItems o old next xs placed (state.more ++ links) (take fresh free)
          (swap_remove free' (fresh - 1 - j) node)) (sym front)
          (record {
            table = ins.table ∙ ap (with_item o item) state.done.table
                ∙ sym (with_more o (take j insert) item old.table);
            both = both_then old now next state.placed ((node, item) ∷ []) state.more links first
                state.done.both (both_insert o now next node item links copy ins leads);
            in_fresh = all_append (λ (p : ℕ × Item). Contains (take fresh free) p.0) state.placed
                ((node, item) ∷ []) state.done.in_fresh (fresh_node.in_first, tt);
            in_tree = all_append (λ (p : ℕ × Item). Contains (listed next.tree) p.0) state.placed
                ((node, item) ∷ []) in_old ((ins.nodes node).1 (inl refl), tt);
            distinct = subst AreDistinct
                (sym (map-append (λ (p : ℕ × Item). p.0) state.placed ((node, item) ∷ [])))
                (distinct_push (map (λ (p : ℕ × Item). p.0) state.placed) node state.done.distinct
                others);
            nodes = subst
                (λ ns. AreAllNodes old.capacity (swap_remove free' (fresh - 1 - j) node ++ ns))
                (sym ins.in_order) (node_taken old.capacity node (place_for o item now.table)
                (swap_remove free' (fresh - 1 - j) node) (listed now.tree) fresh_node.shared);
          }));
      valid = valid.1;
      apart = apart.1;
      off = subst (λ t. AreOff o (drop (j + 1) insert) t) (sym ins.table)
          (still_off o law item (drop (j + 1) insert) now.table apart.0 off.1);
      first =
          subst
          (λ ns. AllByRecursion (λ x. Contains (take fresh free) x) (take (fresh - (j + 1)) ns))
          (sym ef)
          (let same : fresh - (j + 1) ≡ fresh - 1 - j = omega arith in
          let more : fresh - j ≡ fresh - 1 - j + 1 = omega arith in
          let firsts : take (fresh - j) free' ≡ take (fresh - 1 - j) free' ++ node ∷ [] =
          ap (λ k. take k free') more ∙ take_more free' (fresh - 1 - j) node within
          ∙ ap (λ x. take (fresh - 1 - j) free' ++ x ∷ []) (sym taken) in
          subst (AllByRecursion (λ x. Contains (take fresh free) x))
          (sym (ap (λ k. take k (swap_remove free' (fresh - 1 - j) node)) same
          ∙ take-swap_remove free' (fresh - 1 - j) node within))
          (all_left (λ x. Contains (take fresh free) x) (take (fresh - 1 - j) free') (node ∷ [])
          (subst (AllByRecursion (λ x. Contains (take fresh free) x)) firsts state.first)));
    }
  where
    nodes_differ : (x : ℕ) (placed : PlacedItems)
        → AllByRecursion (λ (p : ℕ × Item). p.0 ≢ x) placed
        → AllByRecursion (λ y. y ≢ x) (map (λ (p : ℕ × Item). p.0) placed)
    nodes_differ x [] h = tt
    nodes_differ x (p ∷ rest) h = (h.0, nodes_differ x rest h.1)

-- a free node is one of the memory's and none of the tree's
pub free_node : (n : ℕ) (free nodes : List ℕ) (node : ℕ) → AreAllNodes n (free ++ nodes)
    → Contains free node → (node < n) × (Contains nodes node → ⊥)
free_node n free nodes node are is =
    last_is_free n node (swap_remove free is.0 node) nodes
    (taken_out n free nodes is.0 node is.1 (sym is.2) are)

few_there : (words : List ℕ) (xs : List Item) → AllByRecursion (λ b. has b xs ≡ true) words
    → some_twice words ≡ false → length words ≤ length xs
few_there [] xs h once = omega arith
few_there (a ∷ rest) xs h once =
    let two = or_parts (list_any (λ b. b == a) rest) (some_twice rest) once in
    omega (
      arith,
      few_there rest (without a xs) (all_has_without a rest xs two.0 h.1) two.1,
      length_without_one a xs h.0,
    )

pub few_words : (words : List ℕ) (xs : List Item) → some_missing words xs ≡ false
    → some_twice words ≡ false → length words ≤ length xs
few_words words xs there once = few_there words xs (all_there words xs there) once
