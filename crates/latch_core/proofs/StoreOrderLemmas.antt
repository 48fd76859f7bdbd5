-- Stores that lead each copy from the old table to the new make an update, through which the stable
-- copy stays a red-black tree.
use Rattle.latch_core.proofs.Words.{◌≡◌, ◌≢◌, ℕ, suc, ◌+◌, ◌%◌, ◌<◌, ◌≤◌, false, cond, List, []}
use Rattle.latch_core.proofs.Words.{◌∷◌, ◌++◌, length, Some, None, refl, sym, ◌∙◌, ap, subst, inl}
use Rattle.latch_core.proofs.Words.{inr, arith, length-append, length-set, get_or-set_other, ◌⊎◌}
use Rattle.latch_core.proofs.Words.{◌==◌, AllByRecursion, ne_eqb, Item, all_weaker, all_append}
use Rattle.latch_core.proofs.Words.{links_elsewhere, links_not_zero, zero_kept, not_in_use, Store}
use Rattle.latch_core.proofs.Words.{at, words_for, root_word, left_word, right_word, Nodes, Holds}
use Rattle.latch_core.proofs.Words.{Reaches, by_root, by_left, by_right, InUse, IsUnreached}
use Rattle.latch_core.proofs.Words.{words_per_node, none, IsItemWord, words_after, words_after_all}
use Rattle.latch_core.proofs.Words.{AreLinkStores, IsCopyWord, in_copy, one_item, link_no_item}
use Rattle.latch_core.proofs.Words.{link_no_other, link_place, item_place, item_not_zero}
use Rattle.latch_core.proofs.Words.{item_not_root, item_not_left, item_not_right, copy_not_zero}
use Rattle.latch_core.proofs.Words.{unused_item, Agree, length_after, after_append, untouched}
use Rattle.latch_core.proofs.Words.{agree_after, holds_untouched, tree_agree, flip_adds}
use Rattle.latch_core.proofs.Words.{tree_untouched, IsBalanced, stable_copy_of, PendingUpdate}
use Rattle.latch_core.proofs.Words.{BothHold, IsHidden, IsFirstFlip, IsSecondFlip, flips_after}
use Rattle.latch_core.proofs.Words.{opening_latch, IsPlan, flip_to, update_stores, get_or-replicate}
use Rattle.latch_core.proofs.Words.{balanced_none, IsShallow, StaysShallow, nat_tests}
use Rattle.std.proofs.Common.{◌-◌, ◌*◌}
use Rattle.latch_core.proofs.SoundLemmas.{flips_of_store}
use Rattle.word_layout.proofs.HeldLemmas.{leads_once}

-- each step's kind, the last step's duty apart, and how many flips there are in the end
abbrev Kinds : ℕ → List Item → List Item → List ℕ → ℕ → List ℕ → List Store → ℕ → Type 0
Kinds n old new began flips m [] made = flips ≡ made
Kinds n old new began flips m (s ∷ ss) made =
    ((left : ℕ) → let h : PendingUpdate =
    record { old_table = old; old_words = began; flips_made = flips; steps_left = left } in
    IsHidden n m began s.word ⊎ (IsFirstFlip n m h s ⊎ IsSecondFlip n m h new s))
    × Kinds n old new began (flips_after flips s) (words_after m s) ss made

kinds_append : (n : ℕ) (old new : List Item) (began : List ℕ) (f g made : ℕ) (m : List ℕ)
    (xs ys : List Store) → Kinds n old new began f m xs g
    → Kinds n old new began g (words_after_all m xs) ys made
    → Kinds n old new began f m (xs ++ ys) made
kinds_append n old new began f g made m [] ys a b =
    subst (λ k. Kinds n old new began k m ys made) (sym a) b
kinds_append n old new began f g made m (x ∷ xs) ys a b =
    (a.0, kinds_append n old new began (flips_after f x) g made (words_after m x) xs ys a.1 b)

-- kinds of steps, with two flips and the new table in both copies in the end, make a plan
plan_of_kinds : (n : ℕ) (old new : List Item) (began : List ℕ) (f : ℕ) (m : List ℕ)
    (ss : List Store) → 0 < length ss → Kinds n old new began f m ss 2
    → BothHold (words_after_all m ss) n new → IsPlan n (record {
      words = m;
      newest_table = new;
      pending =
          Some (record {
            old_table = old;
            old_words = began;
            flips_made = f;
            steps_left = length ss;
          });
    }) ss
plan_of_kinds n old new began f m [] some k both = absurd (omega arith)
plan_of_kinds n old new began f m (s ∷ []) some k both =
    (_, refl, record { kind = k.0 1; at_end = λ e. (k.1, both) }, refl)
plan_of_kinds n old new began f m (s ∷ t ∷ ss) some k both =
    let rest = plan_of_kinds n old new began (flips_after f s) (words_after m s) (t ∷ ss)
    (omega arith) k.1 both in
    let more : (suc (suc (length ss)) == 1) ≡ false =
    ne_eqb (suc (suc (length ss))) 1 (λ e. absurd (omega arith)) in
    let less : suc (suc (length ss)) - 1 ≡ suc (length ss) = omega arith in (
      _,
      refl,
      record { kind = k.0 (suc (suc (length ss))); at_end = λ e. absurd (omega arith) },
      subst (λ b. IsPlan n (record {
        words = words_after m s;
        newest_table = new;
        pending = cond b None (Some (record {
          old_table = old;
          old_words = began;
          flips_made = flips_after f s;
          steps_left = suc (suc (length ss)) - 1;
        }));
      }) (t ∷ ss)) (sym more)
          (subst (λ x. IsPlan n (record {
            words = words_after m s;
            newest_table = new;
            pending = Some
                (record {
                  old_table = old;
                  old_words = began;
                  flips_made = flips_after f s;
                  steps_left = x;
                });
          }) (t ∷ ss)) (sym less) rest),
    )

-- a word that is no item's
abbrev NoItemWord : ℕ → Type 0
NoItemWord w = (i : ℕ) → IsItemWord i w → ⊥

-- stores of item words of nodes that neither copy reaches
abbrev pub IsFreeStore : List ℕ → ℕ → Store → Type 0
IsFreeStore m n s = (i : ℕ) × (i < n) × IsUnreached m n i × IsItemWord i s.word

abbrev pub AreFreeStores : List ℕ → ℕ → List Store → Type 0
AreFreeStores m n ss = AllByRecursion (IsFreeStore m n) ss

-- a walk goes where it went, if roots and links are the same
reached_before : (m m' : List ℕ) (n copy : ℕ) → copy ≤ 1 → Agree NoItemWord m m' → (i : ℕ)
    → Reaches m' n copy i → Reaches m n copy i
reached_before m m' n copy c same _ (by_root i lt e) =
    by_root i lt (sym (same (root_word copy) (λ k is. item_not_root k copy c is)) ∙ e)
reached_before m m' n copy c same _ (by_left i j r lt e) =
    by_left i j (reached_before m m' n copy c same i r) lt
    (sym (same (left_word copy i) (λ k is. item_not_left k copy i c is)) ∙ e)
reached_before m m' n copy c same _ (by_right i j r lt e) =
    by_right i j (reached_before m m' n copy c same i r) lt
    (sym (same (right_word copy i) (λ k is. item_not_right k copy i c is)) ∙ e)

-- the items' words, before the first flip
items_kinds : (n : ℕ) (old new : List Item) (began m : List ℕ) (ss : List Store)
    → AreFreeStores began n ss → stable_copy_of (at m 0) ≡ 0 → length m ≡ words_for n
    → Agree NoItemWord began m → Kinds n old new began 0 m ss 0
items_kinds n old new began m [] is even sized same = refl
items_kinds n old new began m (s ∷ ss) is even sized same =
    let node = is.0.0 in
    let free = is.0.2 in
    let word = is.0.3 in
    let place = item_place n node s.word is.0.1 word in
    let free_now : IsUnreached m n node = (
      (λ r. free.0 (reached_before began m n 0 (omega arith) same node r)),
      (λ r. free.1 (reached_before began m n 1 (omega arith) same node r)),
    ) in
    let hidden : IsHidden n m began s.word =
    record {
      in_range = omega (arith, place.1);
      not_sequence = place.0;
      not_in_use = subst (λ c. InUse m n c s.word → ⊥) (sym even)
          (unused_item m n 0 node s.word (omega arith) free_now.0 word);
      item_words = λ i h. subst (λ j. IsUnreached began n j × IsUnreached m n j)
          (sym (one_item node i s.word word h)) (free, free_now);
    } in
    let zero_same : at (words_after m s) 0 ≡ at m 0 =
    get_or-set_other m s.word 0 s.value 0 (λ e. place.0 (sym e)) in (
      (λ left. inl hidden),
      subst (λ f. Kinds n old new began f (words_after m s) ss 0) (sym (flips_of_store 0 s place.0))
          (items_kinds n old new began (words_after m s) ss is.1
          (ap stable_copy_of zero_same ∙ even) (length-set m s.word s.value ∙ sized)
          (λ w no_item. get_or-set_other m s.word w s.value 0
          (λ e. no_item node (subst (IsItemWord node) (sym e) word)) ∙ same w no_item)),
    )

-- one copy's root and links, while readers walk the other
links_kinds : (n : ℕ) (old new : List Item) (began m : List ℕ) (f copy other : ℕ) → copy + other ≡ 1
    → (ss : List Store) → AreLinkStores n copy ss → stable_copy_of (at m 0) ≡ other
    → length m ≡ words_for n → Kinds n old new began f m ss f
links_kinds n old new began m f copy other c [] ls seq sized = refl
links_kinds n old new began m f copy other c (s ∷ ss) ls seq sized =
    let place = link_place n copy s.word (omega arith) ls.0 in
    let hidden : IsHidden n m began s.word =
    record {
      in_range = omega (arith, place.1);
      not_sequence = place.0;
      not_in_use = subst (λ d. InUse m n d s.word → ⊥) (sym seq)
          (λ u. link_no_other n copy other s.word c ls.0 (in_copy m n other s.word u));
      item_words = λ i h. absurd (link_no_item n copy i s.word (omega arith) ls.0 h);
    } in
    let zero_same : at (words_after m s) 0 ≡ at m 0 =
    get_or-set_other m s.word 0 s.value 0 (λ e. place.0 (sym e)) in (
      (λ left. inl hidden),
      subst (λ g. Kinds n old new began g (words_after m s) ss f) (sym (flips_of_store f s place.0))
          (links_kinds n old new began (words_after m s) f copy other c ss ls.1
          (ap stable_copy_of zero_same ∙ seq) (length-set m s.word s.value ∙ sized)),
    )

-- what the stores of an update owe: each copy is led from the old table to the new, in these trees,
-- by the items' words and its own links
pub record Leading (n : ℕ) (old new : List Item) (m : List ℕ)
    (item_stores links0 links1 : List Store) (zero one : Nodes) : Type 0 where
  pub sized : length m ≡ words_for n
  pub even : stable_copy_of (at m 0) ≡ 0
  pub both_old : BothHold m n old
  pub items_free : AreFreeStores m n item_stores
  pub links_zero : AreLinkStores n 0 links0
  pub links_one : AreLinkStores n 1 links1
  pub leads_zero : Holds (words_after_all (words_after_all m item_stores) links0) n 0 new zero
  pub leads_one : Holds (words_after_all (words_after_all m item_stores) links1) n 1 new one
  pub old_trees : (t0 : Nodes) × (t1 : Nodes) × Holds m n 0 old t0 × Holds m n 1 old t1
      × IsBalanced t0 × IsBalanced t1
  pub new_trees : IsBalanced zero × IsBalanced one

-- stores of free nodes and of links keep away from word 0 and from what is in use
pub items_not_zero : (m : List ℕ) (n : ℕ) (ss : List Store) → AreFreeStores m n ss
    → AllByRecursion (λ (s : Store). s.word ≢ 0) ss
items_not_zero m n ss are = all_weaker (IsFreeStore m n) (λ (s : Store). s.word ≢ 0)
    (λ s a. item_not_zero a.0 s.word a.3) ss are

pub items_unused : (m : List ℕ) (n : ℕ) (ss : List Store) → AreFreeStores m n ss
    → AllByRecursion (λ (s : Store). InUse m n 0 s.word → ⊥) ss
    × AllByRecursion (λ (s : Store). InUse m n 1 s.word → ⊥) ss
items_unused m n ss are = (
  all_weaker (IsFreeStore m n) (λ (s : Store). InUse m n 0 s.word → ⊥)
      (λ s a. unused_item m n 0 a.0 s.word (omega arith) a.2.0 a.3) ss are,
  all_weaker (IsFreeStore m n) (λ (s : Store). InUse m n 1 s.word → ⊥)
      (λ s a. unused_item m n 1 a.0 s.word (omega arith) a.2.1 a.3) ss are,
)

pub flip_far : (copy : ℕ) (m : List ℕ) (seq : ℕ)
    → Agree (IsCopyWord copy) m (words_after m (flip_to seq))
flip_far copy m seq w p = get_or-set_other m 0 w seq 0 (λ e. copy_not_zero copy w p e)

module _ (n : ℕ) (old new : List Item) (m : List ℕ) (items ls0 ls1 : List Store) (t0 t1 : Nodes)
    (is : Leading n old new m items ls0 ls1 t0 t1) where
  -- the words after the items' words, the first flip, the links of copy 0, the second flip, the
  -- links of copy 1
  abbrev m1 : List ℕ
  m1 = words_after_all m items

  abbrev m2 : List ℕ
  m2 = words_after m1 (flip_to (at m 0 + 1))

  abbrev m3 : List ℕ
  m3 = words_after_all m2 ls0

  abbrev m4 : List ℕ
  m4 = words_after m3 (flip_to (at m 0 + 2))

  abbrev m5 : List ℕ
  m5 = words_after_all m4 ls1

  -- how many words there are, and what the sequence is
  sized1 : length m1 ≡ words_for n
  sized1 = length_after m items ∙ is.sized

  pub sized2 : length m2 ≡ words_for n
  sized2 = length-set m1 0 (at m 0 + 1) ∙ sized1

  sized3 : length m3 ≡ words_for n
  sized3 = length_after m2 ls0 ∙ sized2

  sized4 : length m4 ≡ words_for n
  sized4 = length-set m3 0 (at m 0 + 2) ∙ sized3

  seq1 : at m1 0 ≡ at m 0
  seq1 = zero_kept m items (items_not_zero m n items is.items_free)

  pub seq2 : at m2 0 ≡ at m 0 + 1
  seq2 =
      flip_adds m1 (flip_to (at m 0 + 1)) (omega (arith, sized1)) refl (ap (λ q. q + 1) (sym seq1))
      ∙ ap (λ q. q + 1) seq1

  seq3 : at m3 0 ≡ at m 0 + 1
  seq3 = zero_kept m2 ls0 (links_not_zero n 0 ls0 (omega arith) is.links_zero) ∙ seq2

  next_is : at m 0 + 2 ≡ at m3 0 + 1
  next_is = omega (arith, seq3)

  seq4 : at m4 0 ≡ at m 0 + 2
  seq4 = flip_adds m3 (flip_to (at m 0 + 2)) (omega (arith, sized3)) refl next_is ∙ sym next_is

  seq5 : at m5 0 ≡ at m 0 + 2
  seq5 = zero_kept m4 ls1 (links_not_zero n 1 ls1 (omega arith) is.links_one) ∙ seq4

  pub odd2 : stable_copy_of (at m2 0) ≡ 1
  odd2 = let e : at m 0 % 2 ≡ 0 = is.even in omega (arith, seq2)

  odd3 : stable_copy_of (at m3 0) ≡ 1
  odd3 = let e : at m 0 % 2 ≡ 0 = is.even in omega (arith, seq3)

  pub even4 : stable_copy_of (at m4 0) ≡ 0
  even4 = let e : at m 0 % 2 ≡ 0 = is.even in omega (arith, seq4)

  -- what the copies hold
  old1 : BothHold m1 n old
  old1 = grind (arith, nat_tests, items_unused, holds_untouched)

  new0_3 : Holds m3 n 0 new t0
  new0_3 = tree_agree (words_after_all m1 ls0) m3 n 0 new t0
      (agree_after (IsCopyWord 0) m1 m2 ls0 (sized2 ∙ sym sized1) (flip_far 0 m1 (at m 0 + 1)))
      is.leads_zero

  pub new0_4 : Holds m4 n 0 new t0
  new0_4 = tree_agree m3 m4 n 0 new t0 (flip_far 0 m3 (at m 0 + 2)) new0_3

  new0_5 : Holds m5 n 0 new t0
  new0_5 = tree_agree m4 m5 n 0 new t0
      (untouched (IsCopyWord 0) m4 ls1 (links_elsewhere n 1 0 ls1 refl is.links_one)) new0_4

  same14 : Agree (IsCopyWord 1) m1 m4
  same14 w p =
      flip_far 1 m3 (at m 0 + 2) w p
      ∙ untouched (IsCopyWord 1) m2 ls0 (links_elsewhere n 0 1 ls0 refl is.links_zero) w p
      ∙ flip_far 1 m1 (at m 0 + 1) w p

  new1_5 : Holds m5 n 1 new t1
  new1_5 = tree_agree (words_after_all m1 ls1) m5 n 1 new t1
      (agree_after (IsCopyWord 1) m1 m4 ls1 (sized4 ∙ sym sized1) same14) is.leads_one

  -- the kinds of the steps
  abbrev flips0 : List Store
  flips0 = flip_to (at m 0 + 1) ∷ ls0

  abbrev flips1 : List Store
  flips1 = flip_to (at m 0 + 2) ∷ ls1

  first_flip : Kinds n old new m 0 m1 flips0 1
  first_flip = (
    (λ left. inr (inl (record {
      sequence = refl;
      adds_one = ap (λ q. q + 1) (sym seq1);
      is_even = ap stable_copy_of seq1 ∙ is.even;
      no_flip = refl;
      both_old = old1;
    }))),
    links_kinds n old new m m2 1 0 1 refl ls0 is.links_zero odd2 sized2,
  )

  second_flip : Kinds n old new m 1 m3 flips1 2
  second_flip = (
    (λ left. inr (inr (record {
      sequence = refl;
      adds_one = next_is;
      is_odd = odd3;
      one_flip = refl;
      first_new = (t0, new0_3);
    }))),
    links_kinds n old new m m4 2 1 0 refl ls1 is.links_one even4 sized4,
  )

  pub words_front : words_after_all m (items ++ flips0) ≡ m3
  words_front = after_append m items flips0

  kinds_all : Kinds n old new m 0 m ((items ++ flips0) ++ flips1) 2
  kinds_all =
      kinds_append n old new m 0 1 2 m (items ++ flips0) flips1
      (kinds_append n old new m 0 0 1 m items flips0
      (items_kinds n old new m m items is.items_free is.even is.sized (λ w away. refl))
      first_flip)
      (subst (λ x. Kinds n old new m 1 x flips1 2) (sym words_front) second_flip)

  -- the words after all, and the plan
  pub update_words : words_after_all m (update_stores (at m 0) items ls0 ls1) ≡ m5
  update_words =
      after_append m (items ++ flips0) flips1 ∙ ap (λ x. words_after_all x flips1) words_front

  pub update_zero : Holds (words_after_all m (update_stores (at m 0) items ls0 ls1)) n 0 new t0
  update_zero = subst (λ x. Holds x n 0 new t0) (sym update_words) new0_5

  pub update_one : Holds (words_after_all m (update_stores (at m 0) items ls0 ls1)) n 1 new t1
  update_one = subst (λ x. Holds x n 1 new t1) (sym update_words) new1_5

  pub update_sequence : at (words_after_all m (update_stores (at m 0) items ls0 ls1)) 0 ≡ at m 0 + 2
  update_sequence = ap (λ x. at x 0) update_words ∙ seq5

  pub update_plan : (left : ℕ) → left ≡ length (update_stores (at m 0) items ls0 ls1)
      → IsPlan n (record {
        words = m;
        newest_table = new;
        pending =
            Some (record { old_table = old; old_words = m; flips_made = 0; steps_left = left });
      }) (update_stores (at m 0) items ls0 ls1)
  update_plan left e =
      grind (arith, nat_tests, length-append, plan_of_kinds, kinds_all, update_zero, update_one)

stays_append : (n : ℕ) (m : List ℕ) (xs ys : List Store) → StaysShallow n m xs
    → StaysShallow n (words_after_all m xs) ys → StaysShallow n m (xs ++ ys)
stays_append n m [] ys a b = b
stays_append n m (x ∷ xs) ys a b = (a.0, stays_append n (words_after m x) xs ys a.1 b)

-- stores that keep away from what is in use in the stable copy
module _ (n : ℕ) (m : List ℕ) (c : ℕ) (table : List Item) (t : Nodes)
    (now : stable_copy_of (at m 0) ≡ c) (holds : Holds m n c table t) (good : IsBalanced t) where
  abbrev Away : List Store → Type 0
  Away ss = AllByRecursion (λ (s : Store). InUse m n c s.word → ⊥) ss
      × AllByRecursion (λ (s : Store). s.word ≢ 0) ss

  shallow_after : (done : List Store) → Away done → IsShallow n (words_after_all m done)
  shallow_after done away =
      let seq : stable_copy_of (at (words_after_all m done) 0) ≡ c =
      ap stable_copy_of (zero_kept m done away.1) ∙ now in (
        table,
        t,
        subst (λ d. Holds (words_after_all m done) n d table t) (sym seq)
            (tree_untouched m n c table t done away.0 holds),
        good,
      )

  stays_from : (done rest : List Store) → Away done → Away rest
      → StaysShallow n (words_after_all m done) rest
  stays_from done [] a b = shallow_after done a
  stays_from done (s ∷ ss) a b =
      let more : Away (done ++ s ∷ []) = (
        all_append (λ (s : Store). InUse m n c s.word → ⊥) done (s ∷ []) a.0 (b.0.0, tt),
        all_append (λ (s : Store). s.word ≢ 0) done (s ∷ []) a.1 (b.1.0, tt),
      ) in (
        shallow_after done a,
        subst (λ w. StaysShallow n w ss) (after_append m done (s ∷ []))
            (stays_from (done ++ s ∷ []) ss more (b.0.1, b.1.1)),
      )

  stays_shallow : (ss : List Store) → Away ss → StaysShallow n m ss
  stays_shallow ss away = stays_from [] ss (tt, tt) away

module _ (n : ℕ) (old new : List Item) (m : List ℕ) (items ls0 ls1 : List Store) (t0 t1 : Nodes)
    (is : Leading n old new m items ls0 ls1 t0 t1) where
  pub update_shallow : StaysShallow n m (update_stores (at m 0) items ls0 ls1)
  update_shallow =
      let f1 = flip_to (at m 0 + 1) in
      let f2 = flip_to (at m 0 + 2) in
      let m1 = words_after_all m items in
      let m2 = words_after m1 f1 in
      let m3 = words_after_all m2 ls0 in
      let m4 = words_after m3 f2 in
      let u0 = is.old_trees.0 in
      let u1 = is.old_trees.1 in
      let unused = items_unused m n items is.items_free in
      let nonzero = items_not_zero m n items is.items_free in
      let a = stays_shallow n m 0 old u0 is.even is.old_trees.2 is.old_trees.4 items
      (unused.0, nonzero) in
      let s1 = shallow_after n m 0 old u0 is.even is.old_trees.2 is.old_trees.4 items
      (unused.0, nonzero) in
      let one1 : Holds m1 n 1 old u1 = tree_untouched m n 1 old u1 items unused.1 is.old_trees.3 in
      let one2 : Holds m2 n 1 old u1 =
      tree_agree m1 m2 n 1 old u1 (flip_far 1 m1 (at m 0 + 1)) one1 in
      let unused0 = not_in_use m2 n 1 ls0 (links_elsewhere n 0 1 ls0 refl is.links_zero) in
      let nonzero0 = links_not_zero n 0 ls0 (omega arith) is.links_zero in
      let odd = odd2 n old new m items ls0 ls1 t0 t1 is in
      let b = stays_shallow n m2 1 old u1 odd one2 is.old_trees.5 ls0 (unused0, nonzero0) in
      let s3 = shallow_after n m2 1 old u1 odd one2 is.old_trees.5 ls0 (unused0, nonzero0) in
      let even = even4 n old new m items ls0 ls1 t0 t1 is in
      let unused1 = not_in_use m4 n 0 ls1 (links_elsewhere n 1 0 ls1 refl is.links_one) in
      let nonzero1 = links_not_zero n 1 ls1 (omega arith) is.links_one in
      let d = stays_shallow n m4 0 new t0 even (new0_4 n old new m items ls0 ls1 t0 t1 is)
      is.new_trees.0 ls1 (unused1, nonzero1) in
      stays_append n m (items ++ f1 ∷ ls0) (f2 ∷ ls1) (stays_append n m items (f1 ∷ ls0) a (s1, b))
      (subst (λ w. StaysShallow n w (f2 ∷ ls1))
      (sym (words_front n old new m items ls0 ls1 t0 t1 is)) (s3, d))

-- before any step both copies are empty
pub opening_shallow : (n start : ℕ) → stable_copy_of start ≡ 0
    → IsShallow n (opening_latch n start).words
opening_shallow n start even =
    let root : at (opening_latch n start).words (root_word (stable_copy_of start)) ≡ 0 =
    ap (λ c. at (opening_latch n start).words (root_word c)) even
    ∙ get_or-replicate (words_per_node * n + 2) 0 0 0 (omega arith) in
    ([], none, record { leads = root; listed_items = refl }, balanced_none)

-- whichever table and tree the stable copy holds, the tree is red-black
pub shallow_tree : (n : ℕ) (m : List ℕ) (table : List Item) (t : Nodes)
    → Holds m n (stable_copy_of (at m 0)) table t → IsShallow n m → IsBalanced t
shallow_tree n m table t holds low = grind (arith, nat_tests, leads_once)

pub stays_now : (n : ℕ) (m : List ℕ) (ss : List Store) → StaysShallow n m ss → IsShallow n m
stays_now n m [] h = h
stays_now n m (s ∷ ss) h = h.0
