-- An update that begins: what was tested; an update whose items are placed in free nodes, and whose
-- links lead both copies: the stores that are planned for it carry it out.
use Rattle.latch_core.proofs.Words.{◌≡◌, ℕ, ◌+◌, ◌<◌, ◌≤◌, List, [], ◌∷◌, ◌++◌, length, None, ap}
use Rattle.latch_core.proofs.Words.{subst, arith, length-append, ◌≢◌, take, refl, sym, ◌∙◌, All}
use Rattle.latch_core.proofs.Words.{insert, Contains, ltb-false, or_parts, All-append, All-cons}
use Rattle.latch_core.proofs.Words.{All-from_recursion, Contains-append_right, Item, Order}
use Rattle.latch_core.proofs.Words.{place_for, place_of, Store, words_for, Nodes, listed, at, Holds}
use Rattle.latch_core.proofs.Words.{IsUnreached, AreLinkStores, words_after_all, IsItemWord}
use Rattle.latch_core.proofs.Words.{Picture, IsPictured, links_in_range, same_item, Update, Batch}
use Rattle.latch_core.proofs.Words.{Insert, Erase, after, size_of, with_items, Latch, flip_to}
use Rattle.latch_core.proofs.Words.{update_stores, AreAllNodes, WriterView, IsMemoryAtRest}
use Rattle.latch_core.proofs.Words.{HasBegun, AreInStep, why_refused, AllByRecursion, length-map}
use Rattle.latch_core.proofs.Words.{take-append-le, take_all, all_append, all_weaker, one_item}
use Rattle.latch_core.proofs.Words.{item_place, length_after, untouched, tree_untouched, IsBalanced}
use Rattle.latch_core.proofs.Words.{Inserts, Erases, LeadsWithItem, LeadsByLinks, item_stores}
use Rattle.latch_core.proofs.Words.{mirror_stores, mirror_store, second_picture, AreDistinct}
use Rattle.latch_core.proofs.Words.{stable_copy_of, PlacedItems, stores_of_placed, AreInPlace}
use Rattle.latch_core.proofs.Words.{RelinksBoth, ErasesWords, InsertsItems, nat_tests}
use Rattle.std.proofs.Common.{◌*◌}
use Rattle.std.specs.Prelude.{map}
use Rattle.std.proofs.Math.Nat.{mul-le-mul_right}
use Rattle.latch_core.proofs.TestLemmas.{all_tests, none_holds}
use Rattle.latch_core.proofs.StoreOrderLemmas.{Leading, AreFreeStores, items_unused}
use Rattle.latch_core.proofs.ChangeLemmas.{last_is_free, node_taken, node_freed, both_then}
use Rattle.latch_core.proofs.ChangeLemmas.{both_insert, both_erase, few_words, free_node}
use Rattle.latch_core.proofs.WriterLemmas.{begun_pictures, rest_now, unlisted}
use Rattle.latch_core.proofs.SoundLemmas.{after_insert, after_erase}
use Rattle.rb_words.proofs.PlanLemmas.{item_put}

-- an accepted batch erases no more items than there are, and what it inserts fits beside them
pub batch_is_small : {K : Type 0} (o : Order K) (w : WriterView) (erase : List ℕ)
    (insert : List Item) → why_refused o w (Batch erase insert) ≡ None
    → (length erase ≤ length w.table) × (length w.table + length insert ≤ w.capacity)
batch_is_small o w erase insert e =
    grind (arith, nat_tests, all_tests, none_holds, or_parts, few_words, ltb-false)

-- the free node that an insert takes
pub taken_node : {n : ℕ} {zero : Picture} {free : List ℕ} {left : List Store} (rest : List ℕ)
    (node : ℕ) → AreInStep n zero free left → free ≡ rest ++ node ∷ []
    → (node < n) × (Contains (listed zero.tree) node → ⊥)
taken_node rest node step e = grind (arith, nat_tests, last_is_free)

-- the stores lie in the memory
update_in_range : (n seq : ℕ) (items links0 links1 : List Store)
    → All (λ (s : Store). s.word < words_for n) items → AreLinkStores n 0 links0
    → AreLinkStores n 1 links1
    → All (λ (s : Store). s.word < words_for n) (update_stores seq items links0 links1)
update_in_range n seq items links0 links1 all zero one =
    let P : Store → Type 0 = λ s. s.word < words_for n in
    let f0 = All-cons P (flip_to (seq + 1)) links0 (omega arith)
    (links_in_range n 0 links0 (omega arith) zero) in
    let f1 = All-cons P (flip_to (seq + 2)) links1 (omega arith)
    (links_in_range n 1 links1 (omega arith) one) in
    All-append P (items ++ flip_to (seq + 1) ∷ links0) (flip_to (seq + 2) ∷ links1)
    (All-append P items (flip_to (seq + 1) ∷ links0) all f0) f1

-- how many stores an update has
update_length : (seq : ℕ) (items links0 links1 : List Store)
    → length (update_stores seq items links0 links1)
    ≡ length items + length links0 + length links1 + 2
update_length seq items links0 links1 = grind (arith, nat_tests, length-append)

-- the steps of an update are few
few_steps : (n size k : ℕ) → k ≤ 2 * (16 * size) + 2 → k ≤ 64 * (n + 1) * (size + 1)
few_steps n size k le = grind (arith, nat_tests, mul-le-mul_right)

-- the core with a pending update
has_begun : {K : Type 0} (o : Order K) (w : WriterView) (u : Update)
    (items links0 links1 : List Store) (zero one : Nodes) → w.stores_left ≡ []
    → length items + length links0 + length links1 + 2 ≤ 2 * (16 * size_of u) + 2
    → ((l : Latch) → IsMemoryAtRest w l.words
    → Leading w.capacity w.table (after o w.table u) l.words items links0 links1 zero one)
    → HasBegun o w u (record w {
      table = after o w.table u;
      zero_tree = zero;
      one_tree = one;
      stores_left = update_stores w.sequence items links0 links1;
    })
has_begun o w u items links0 links1 zero one idle few leading =
    record {
      rest = refl;
      some = omega (arith, update_length w.sequence items links0 links1);
      few = few_steps w.capacity (size_of u) (length (update_stores w.sequence items links0 links1))
          (omega (arith, few, update_length w.sequence items links0 links1));
      short = omega (arith, few, update_length w.sequence items links0 links1);
      pictures = λ l p.
          begun_pictures o w u items links0 links1 zero one l p (leading l (rest_now w l p idle));
    }

others_away : (node : ℕ) (placed : PlacedItems)
    → AllByRecursion (λ y. node ≢ y) (map (λ (p : ℕ × Item). p.0) placed)
    → AllByRecursion (λ (s : Store). IsItemWord node s.word → ⊥) (stores_of_placed placed)
others_away node [] h = tt
others_away node (p ∷ rest) h =
    grind (arith, nat_tests, others_away node rest h.1, one_item, all_append)

all_placed : (m : List ℕ) (n : ℕ) (placed : PlacedItems) → length m ≡ words_for n
    → AllByRecursion (λ (p : ℕ × Item). p.0 < n) placed
    → AreDistinct (map (λ (p : ℕ × Item). p.0) placed)
    → AreInPlace (words_after_all m (stores_of_placed placed)) placed
all_placed m n [] sized lt d = tt
all_placed m n (p ∷ rest) sized lt d =
    let m1 = words_after_all m (item_stores p.0 p.1) in
    let s1 : length m1 ≡ words_for n = length_after m (item_stores p.0 p.1) ∙ sized in (
      same_item m1 (words_after_all m1 (stores_of_placed rest)) p.0
          (untouched (IsItemWord p.0) m1 (stores_of_placed rest) (others_away p.0 rest d.0))
          ∙ item_put m n p.0 p.1 lt.0 sized,
      all_placed m1 n rest s1 lt.1 d.1,
    )

-- what is true of the item words of each node is true of the stores of placed items
on_stores : (P Q : ℕ → Type 0) → ((node w : ℕ) → Q node → IsItemWord node w → P w)
    → (placed : PlacedItems) → AllByRecursion (λ (p : ℕ × Item). Q p.0) placed
    → AllByRecursion (λ (s : Store). P s.word) (stores_of_placed placed)
on_stores P Q each [] h = tt
on_stores P Q each (p ∷ rest) h = grind (arith, nat_tests, on_stores P Q each rest h.1, all_append)

-- stores of placed items are stores of free nodes, and lie in the memory
free_placed : (m : List ℕ) (n : ℕ) (placed : PlacedItems)
    → AllByRecursion (λ (p : ℕ × Item). (p.0 < n) × IsUnreached m n p.0) placed
    → AreFreeStores m n (stores_of_placed placed)
free_placed m n = on_stores (λ w. (i : ℕ) × (i < n) × IsUnreached m n i × IsItemWord i w)
    (λ i. (i < n) × IsUnreached m n i) (λ i w q is. (i, q.0, q.1, is))

placed_within : (n : ℕ) (placed : PlacedItems) → AllByRecursion (λ (p : ℕ × Item). p.0 < n) placed
    → AllByRecursion (λ (s : Store). s.word < words_for n) (stores_of_placed placed)
placed_within n =
    on_stores (λ w. w < words_for n) (λ i. i < n) (λ i w lt is. (item_place n i w lt is).1)

-- the same picture with other room
abbrev pub with_room : Picture → ℕ → Picture
with_room p r = record p { room = r }

pictured : (m : List ℕ) (n copy r : ℕ) (p : Picture) → length m ≡ words_for n → p.capacity ≡ n
    → p.copy ≡ copy → Holds m n copy p.table p.tree → IsPictured m (with_room p r)
pictured m n copy r p sized ec ek holds =
    record {
      sized = sized ∙ ap words_for (sym ec);
      holds =
          subst (λ k. Holds m k p.copy p.table p.tree) (sym ec)
          (subst (λ c. Holds m n c p.table p.tree) (sym ek) holds);
    }

unpictured : (m : List ℕ) (n copy : ℕ) (table : List Item) (p : Picture) → p.capacity ≡ n
    → p.copy ≡ copy → p.table ≡ table → IsPictured m p → Holds m n copy table p.tree
unpictured m n copy table p ec ek et is = grind (arith, nat_tests)

-- what is planned for an update of a core at rest whose free nodes are these: its items are placed
-- in free nodes, the stores lead both copies to the table after it, and these nodes are free then
pub record PlansUpdate {K : Type 0} (o : Order K) (n : ℕ) (old new : Picture) (u : Update)
    (free free' : List ℕ) (placed : PlacedItems) (seq : ℕ) (stores : List Store) : Type 0 where
  pub links : List Store
  pub listed_stores : stores
      ≡ update_stores seq (stores_of_placed placed) links (mirror_stores links)
  pub both : RelinksBoth old new placed links
  pub few : length (stores_of_placed placed) + length links ≤ 16 * size_of u
  pub in_free : AllByRecursion (λ p. Contains free p.0) placed
  pub distinct : AreDistinct (map (λ p. p.0) placed)
  pub table : new.table ≡ after o old.table u
  pub nodes : AreAllNodes n (free' ++ listed new.tree)

module _ {K : Type 0} {o : Order K} {n : ℕ} {zero new : Picture} {r : ℕ} {u : Update}
    {free free' : List ℕ} {placed : PlacedItems} {seq : ℕ} {stores left : List Store}
    (step : AreInStep n zero free left)
    (planned : PlansUpdate o n (with_room zero r) new u free free' placed seq stores) where
  links_zero : AreLinkStores n 0 planned.links
  links_zero = grind (arith, nat_tests)

  links_one : AreLinkStores n 1 (mirror_stores planned.links)
  links_one = grind (arith, nat_tests)

  within : AllByRecursion (λ (p : ℕ × Item). p.0 < n) placed
  within =
      all_weaker (λ (p : ℕ × Item). Contains free p.0) (λ (p : ℕ × Item). p.0 < n)
      (λ p c. (free_node n free (listed zero.tree) p.0 step.nodes c).0) placed planned.in_free

  -- both copies stay in step
  pub planned_step : AreInStep n new free' stores
  planned_step =
      let both = planned.both in
      let stored = update_in_range n seq (stores_of_placed placed) planned.links
      (mirror_stores planned.links)
      (All-from_recursion (λ (s : Store). s.word < words_for n) (stores_of_placed placed)
      (placed_within n placed within))
      links_zero links_one in
      record {
        capacity = both.zero.capacity ∙ step.capacity;
        copy = both.zero.copy ∙ step.copy;
        nodes = planned.nodes;
        in_range =
            subst (All (λ (s : Store). s.word < words_for n)) (sym planned.listed_stores) stored;
      }

  -- and the stores lead each copy from the old table to the new
  leading : (m : List ℕ) → length m ≡ words_for n → stable_copy_of (at m 0) ≡ 0
      → Holds m n 0 zero.table zero.tree → Holds m n 1 zero.table zero.tree
      → ((node : ℕ) → (Contains (listed zero.tree) node → ⊥) → IsUnreached m n node)
      → IsBalanced zero.tree × IsBalanced new.tree
      → Leading n zero.table (after o zero.table u) m (stores_of_placed placed) planned.links
      (mirror_stores planned.links) new.tree new.tree
  leading m sized even holds0 holds1 unreached red =
      let both = planned.both in
      let items = stores_of_placed placed in
      let free_stores =
      free_placed m n placed
      (all_weaker (λ (p : ℕ × Item). Contains free p.0)
      (λ (p : ℕ × Item). (p.0 < n) × IsUnreached m n p.0)
      (λ p c. let is = free_node n free (listed zero.tree) p.0 step.nodes c in
      (is.0, unreached p.0 is.1)) placed planned.in_free) in
      let unused = items_unused m n items free_stores in
      let m1 = words_after_all m items in
      let sized1 = length_after m items ∙ sized in
      let stand = all_placed m n placed sized within planned.distinct in
      let zero1 : Holds m1 n 0 zero.table zero.tree =
      tree_untouched m n 0 zero.table zero.tree items unused.0 holds0 in
      let one1 : Holds m1 n 1 zero.table zero.tree =
      tree_untouched m n 1 zero.table zero.tree items unused.1 holds1 in
      let then0 =
      both.zero.leads m1 (pictured m1 n 0 r zero sized1 step.capacity step.copy zero1) stand in
      let then1 = both.one.leads m1
      (pictured m1 n 1 r (second_picture zero) sized1 step.capacity refl one1) stand in
      record {
        sized = sized;
        even = even;
        both_old = ((zero.tree, holds0), (zero.tree, holds1));
        old_trees = (zero.tree, zero.tree, holds0, holds1, red.0, red.0);
        new_trees = (red.1, red.1);
        items_free = free_stores;
        links_zero = links_zero;
        links_one = links_one;
        leads_zero =
            unpictured (words_after_all m1 planned.links) n 0 (after o zero.table u) new
            (both.zero.capacity ∙ step.capacity) (both.zero.copy ∙ step.copy) planned.table then0;
        leads_one =
            unpictured (words_after_all m1 (mirror_stores planned.links)) n 1 (after o zero.table u)
            (second_picture new) (both.one.capacity ∙ step.capacity) refl planned.table then1;
      }

-- what a core shows whose copies have one table in one tree
abbrev pub shown : ℕ → ℕ → ℕ → List Item → Nodes → List Store → WriterView
shown n limit seq table tree left = record {
  capacity = n;
  limit = limit;
  sequence = seq;
  table = table;
  zero_tree = tree;
  one_tree = tree;
  stores_left = left;
}

-- the core has the pending update
pub planned_begun : {K : Type 0} {o : Order K} {n limit seq : ℕ} {zero z new : Picture} {r : ℕ}
    {u : Update} {free free' : List ℕ} {placed : PlacedItems} {stores left : List Store}
    {w : WriterView}
    → shown n limit seq zero.table zero.tree left ≡ w → w.stores_left ≡ []
    → AreInStep n zero free left → z ≡ with_room zero r
    → PlansUpdate o n (with_room zero r) new u free free' placed seq stores
    → IsBalanced z.tree → IsBalanced new.tree
    → HasBegun o w u (shown n limit seq new.table new.tree stores)
planned_begun {o = o} {n = n} {limit = limit} {seq = seq} {zero = zero} {new = new} {u = u}
    {placed = placed} {stores = stores} {left = left} {w = w} is idle step kept planned red red' =
    let links = planned.links in
    let before = shown n limit seq zero.table zero.tree left in
    let good : IsBalanced zero.tree = subst (λ (p : Picture). IsBalanced p.tree) kept red in
    let begun = has_begun o before u (stores_of_placed placed) links (mirror_stores links) new.tree
    new.tree (ap (λ (v : WriterView). v.stores_left) is ∙ idle)
    (omega (arith, planned.few, length-map links mirror_store))
    (λ l rest.
    leading step planned l.words rest.sized rest.even rest.zero rest.one
    (λ node off. unlisted before l.words node rest refl off) (good, red')) in
    subst (λ v. HasBegun o v u (shown n limit seq new.table new.tree stores)) is
    (subst (λ ss. HasBegun o before u (shown n limit seq new.table new.tree ss))
    (sym planned.listed_stores)
    (subst (λ t. HasBegun o before u (shown n limit seq t new.tree
    (update_stores seq (stores_of_placed placed) links (mirror_stores links))))
    (sym planned.table) begun))

-- an insert
pub insert_planned : {K : Type 0} {o : Order K} {n : ℕ} {zero z new : Picture} {r node : ℕ}
    {item : Item} {free free' : List ℕ} {seq : ℕ} {stores left links : List Store}
    → AreInStep n zero free left → free ≡ free' ++ node ∷ [] → z ≡ with_room zero r
    → Inserts o z new node item → LeadsWithItem z new node item links → length links ≤ 13
    → stores ≡ update_stores seq (item_stores node item) links (mirror_stores links)
    → PlansUpdate o n (with_room zero r) new (Insert item) free free' ((node, item) ∷ []) seq stores
insert_planned {o = o} {n = n} {zero = zero} {new = new} {r = r} {node = node} {item = item}
    {free' = free'} {links = links} step taken is ins leads few listed_stores =
    let inserts : Inserts o (with_room zero r) new node item =
    subst (λ p. Inserts o p new node item) is ins in
    let in_order : AreAllNodes n ((free' ++ node ∷ []) ++ listed zero.tree) =
    subst (λ xs. AreAllNodes n (xs ++ listed zero.tree)) taken step.nodes in
    record {
      links = links;
      listed_stores = listed_stores;
      both = both_insert o (with_room zero r) new node item links step.copy inserts
          (subst (λ p. LeadsWithItem p new node item links) is leads);
      few = omega (arith, few);
      in_free = (
        subst (λ xs. Contains xs node) (sym taken)
            (Contains-append_right free' (node ∷ []) node (0, omega arith, refl)),
        tt,
      );
      distinct = (tt, tt);
      table = inserts.table ∙ sym (after_insert o zero.table item);
      nodes = subst (λ ns. AreAllNodes n (free' ++ ns)) (sym inserts.in_order)
          (node_taken n node (place_for o item zero.table) free' (listed zero.tree) in_order);
    }

-- an erase
pub erase_planned : {K : Type 0} {o : Order K} {n : ℕ} {zero z new : Picture} {r a node : ℕ}
    {free : List ℕ} {seq : ℕ} {stores left links : List Store}
    → AreInStep n zero free left → z ≡ with_room zero r
    → Erases z new a node → LeadsByLinks z new links → length links ≤ 16
    → stores ≡ update_stores seq [] links (mirror_stores links)
    → PlansUpdate o n (with_room zero r) new (Erase a) free (free ++ node ∷ []) [] seq stores
erase_planned {o = o} {n = n} {zero = zero} {new = new} {r = r} {a = a} {node = node} {free = free}
    {links = links} step is er leads few listed_stores =
    let erases : Erases (with_room zero r) new a node = subst (λ p. Erases p new a node) is er in
    record {
      links = links;
      listed_stores = listed_stores;
      both = both_erase (with_room zero r) new a node links step.copy erases
          (subst (λ p. LeadsByLinks p new links) is leads);
      few = omega (arith, few);
      in_free = tt;
      distinct = tt;
      table = erases.table ∙ sym (after_erase o zero.table a);
      nodes =
          subst (λ ns. AreAllNodes n ((free ++ node ∷ []) ++ ns)) (sym erases.in_order) (node_freed
          n node (place_of a zero.table) free (listed zero.tree) erases.at_place step.nodes);
    }

-- a batch: erases, and then inserts in nodes that were free before them
pub batch_planned : {K : Type 0} {o : Order K} {n : ℕ} {zero z0 z1 z2 : Picture} {r : ℕ}
    {erase : List ℕ} {insert : List Item} {placed : PlacedItems} {xs ys : List Store}
    {free free1 free2 : List ℕ} {seq : ℕ} {stores left : List Store}
    → AreInStep n zero free left → z0 ≡ with_room zero r
    → ErasesWords z0 z1 erase xs free free1
    → InsertsItems o z1 z2 insert placed ys (take (length free) free1) free2
    → length (stores_of_placed placed) + length (xs ++ ys) ≤ 16 * size_of (Batch erase insert)
    → stores ≡ update_stores seq (stores_of_placed placed) (xs ++ ys) (mirror_stores (xs ++ ys))
    → PlansUpdate o n (with_room zero r) z2 (Batch erase insert) free free2 placed seq stores
batch_planned {o = o} {n = n} {zero = zero} {z1 = z1} {z2 = z2} {r = r} {erase = erase}
    {insert = insert} {placed = placed} {xs = xs} {ys = ys} {free = free} {free1 = free1}
    {free2 = free2} step is erases inserts few listed_stores =
    let erased : ErasesWords (with_room zero r) z1 erase xs free free1 =
    subst (λ p. ErasesWords p z1 erase xs free free1) is erases in
    let fresh : take (length free) free1 ≡ free = ap (take (length free)) erased.behind
    ∙ take-append-le (length free) free erased.freed (omega arith)
    ∙ take_all (length free) free (omega arith) in
    let same_capacity : z1.capacity ≡ n = erased.both.zero.capacity ∙ step.capacity in
    record {
      links = xs ++ ys;
      listed_stores = listed_stores;
      both = both_then (with_room zero r) z1 z2 [] placed xs ys step.copy erased.both inserts.both;
      few = few;
      in_free = subst (λ ns. AllByRecursion (λ (p : ℕ × Item). Contains ns p.0) placed) fresh
          inserts.in_fresh;
      distinct = inserts.distinct;
      table = inserts.table ∙ ap (with_items o insert) erased.table;
      nodes = subst (λ k. AreAllNodes k (free2 ++ listed z2.tree)) same_capacity inserts.nodes;
    }
