-- One step of a plan, and what the writer's core pictures, from one call to the next.
use Rattle.latch_core.proofs.Words.{◌≡◌, ℕ, suc, ◌%◌, ◌<◌, cond, List, [], ◌∷◌, length, drop, Some}
use Rattle.latch_core.proofs.Words.{None, sym, ◌∙◌, ap, subst, arith, get_or-set_other}
use Rattle.latch_core.proofs.Words.{get_or-set_same, ◌==◌, MatchOption, is_some, nat_lt, slice_get}
use Rattle.latch_core.proofs.Words.{Contains, nat_tests, lt-ltb, cases_eq, ne_eqb, Order}
use Rattle.latch_core.proofs.Words.{first_and_rest, nil-from_length, get_or-replicate}
use Rattle.latch_core.proofs.Words.{length-replicate, Layout, capacity_of, Store, at, Nodes, Holds}
use Rattle.latch_core.proofs.Words.{IsUnreached, listed, words_after, words_after_all, length_after}
use Rattle.latch_core.proofs.Words.{Update, stable_copy_of, refusal_for, after, PendingUpdate}
use Rattle.latch_core.proofs.Words.{Latch, IsWriterStep, latch_after_step, latch_with_update}
use Rattle.latch_core.proofs.Words.{opening_latch, IsPlan, update_stores, WriterView}
use Rattle.latch_core.proofs.Words.{IsMemoryAtRest, StaysShallow, RepresentsLatch, next_store}
use Rattle.latch_core.proofs.Words.{why_refused, sequence_after, writer_after_step, opening_writer}
use Rattle.latch_core.proofs.Words.{has_pending, balanced_none}
use Rattle.std.proofs.lemmas.Bool.{eq-eqb}
use Rattle.word_layout.proofs.ReachLemmas.{reached_listed}
use Rattle.latch_core.proofs.StoreOrderLemmas.{Leading, update_plan, update_zero, update_one}
use Rattle.latch_core.proofs.StoreOrderLemmas.{update_sequence, update_shallow, opening_shallow}
use Rattle.latch_core.proofs.TestLemmas.{all_tests, none_holds}

-- a plan's first store is a step that the writer may make, after which the rest is the plan
pub plan_step : (n : ℕ) (l : Latch) (h : PendingUpdate) (s : Store) (xs : List Store)
    → IsPlan n l xs → l.pending ≡ Some h → slice_get xs 0 ≡ Some s
    → IsPlan n (latch_after_step l h s) (drop 1 xs)
plan_step n l h s xs plan pending is = grind (arith, nat_tests, first_and_rest)

-- how many steps are left, by what is pending after one
at_last : (left : ℕ) (g : PendingUpdate) → cond (left == 1) None (Some g) ≡ None → left ≡ 1
at_last left g e = grind (arith, nat_tests)

before_last : (left : ℕ) (g k : PendingUpdate) → cond (left == 1) None (Some g) ≡ Some k → g ≡ k
before_last left g k e = grind (arith, nat_tests)

pub plan_left : (n : ℕ) (l : Latch) (h : PendingUpdate) (ss : List Store) → IsPlan n l ss
    → l.pending ≡ Some h → h.steps_left ≡ length ss
plan_left n l h [] plan e = absurd (cc)
plan_left n l h (s ∷ []) plan e = grind (arith, nat_tests, at_last)
plan_left n l h (s ∷ t ∷ ss) plan e =
    grind (
      arith,
      nat_tests,
      plan_left n (latch_after_step l plan.0 s) plan.3.0 (t ∷ ss) plan.3 plan.3.1,
      before_last,
    )

-- the next store, and whether there is a pending update
plan_next : (n : ℕ) (l : Latch) (xs : List Store) → IsPlan n l xs → MatchOption (slice_get xs 0)
    (l.pending ≡ None) (λ s. (h : PendingUpdate) × (l.pending ≡ Some h) × IsWriterStep n l h s)
plan_next n l [] plan = plan
plan_next n l (s ∷ ss) plan = (plan.0, plan.1, plan.2)

pub next_may : (w : WriterView) (l : Latch) → RepresentsLatch w l
    → MatchOption (next_store w) (l.pending ≡ None)
    (λ s. (h : PendingUpdate) × (l.pending ≡ Some h) × IsWriterStep w.capacity l h s)
next_may w l p = plan_next w.capacity l w.stores_left p.plan

plan_in_hand : (n : ℕ) (l : Latch) (xs : List Store) → IsPlan n l xs
    → is_some l.pending ≡ nat_lt 0 (length xs)
plan_in_hand n l [] plan = ap is_some plan
plan_in_hand n l (s ∷ ss) plan = ap is_some plan.1 ∙ sym (lt-ltb 0 (suc (length ss)) (omega arith))

-- what the core refuses is what the latch that it pictures refuses
pub refuses_pictured : {K : Type 0} (o : Order K) (w : WriterView) (l : Latch) (u : Update)
    → RepresentsLatch w l
    → refusal_for o w.capacity w.limit (is_some l.pending) l.newest_table (at l.words 0) u
    ≡ why_refused o w u
refuses_pictured o w l u p =
    λ i. refusal_for o w.capacity w.limit (plan_in_hand w.capacity l w.stores_left p.plan i)
    (p.table i) (p.sequence i) u

-- one store later
sequence_stored : (m : List ℕ) (seq : ℕ) (s : Store) → 0 < length m → at m 0 ≡ seq
    → at (words_after m s) 0 ≡ sequence_after seq s
sequence_stored m seq s sized e =
    grind (arith, nat_tests, eq-eqb, get_or-set_same, ne_eqb, get_or-set_other, cases_eq)

pub did_pictures : (w : WriterView) (l : Latch) (h : PendingUpdate) (s : Store)
    → RepresentsLatch w l → l.pending ≡ Some h → next_store w ≡ Some s
    → RepresentsLatch (writer_after_step w s) (latch_after_step l h s)
did_pictures w l h s p pending is =
    grind (arith, nat_tests, first_and_rest, length_after, plan_step, sequence_stored)

pub remaining_pictured : (w : WriterView) (l : Latch) (h : PendingUpdate) → RepresentsLatch w l
    → l.pending ≡ Some h → h.steps_left ≡ length w.stores_left
remaining_pictured w l h p pending = plan_left w.capacity l h w.stores_left p.plan pending

-- an update that the core planned at rest
pub begun_pictures : {K : Type 0} (o : Order K) (w : WriterView) (u : Update)
    (items links0 links1 : List Store) (zero one : Nodes) (l : Latch) → RepresentsLatch w l
    → Leading w.capacity w.table (after o w.table u) l.words items links0 links1 zero one
    → RepresentsLatch (record w {
      table = after o w.table u;
      zero_tree = zero;
      one_tree = one;
      stores_left = update_stores w.sequence items links0 links1;
    }) (latch_with_update o l u (length (update_stores w.sequence items links0 links1)))
begun_pictures o w u items links0 links1 zero one l p leading =
    let n = w.capacity in
    let m = l.words in
    let after_u = after o w.table u in
    let stores = update_stores w.sequence items links0 links1 in
    let same : update_stores (at m 0) items links0 links1 ≡ stores =
    ap (λ q. update_stores q items links0 links1) p.sequence in
    let plan = update_plan n w.table after_u m items links0 links1 zero one leading (length stores)
    (sym (ap length same)) in
    let moved : IsPlan n (record {
      words = m;
      newest_table = after_u;
      pending = Some
          (record {
            old_table = w.table;
            old_words = m;
            flips_made = 0;
            steps_left = length stores;
          });
    }) stores = subst (IsPlan n _) same plan in
    let even_now : at m 0 % 2 ≡ 0 = leading.even in
    let two = update_sequence n w.table after_u m items links0 links1 zero one leading in
    let even_then : stable_copy_of
    (at (words_after_all m (update_stores (at m 0) items links0 links1)) 0) ≡ 0 = omega arith in
    record {
      plan = subst (λ t. IsPlan n (record {
        words = m;
        newest_table = after o t u;
        pending = Some
            (record { old_table = t; old_words = m; flips_made = 0; steps_left = length stores });
      }) stores) (sym p.table) moved;
      at_rest = record {
        sized = length_after m stores ∙ leading.sized;
        even = subst (λ ss. stable_copy_of (at (words_after_all m ss) 0) ≡ 0) same even_then;
        zero = subst (λ ss. Holds (words_after_all m ss) n 0 after_u zero) same
            (update_zero n w.table after_u m items links0 links1 zero one leading);
        one = subst (λ ss. Holds (words_after_all m ss) n 1 after_u one) same
            (update_one n w.table after_u m items links0 links1 zero one leading);
        zero_balanced = leading.new_trees.0;
        one_balanced = leading.new_trees.1;
      };
      table = ap (λ t. after o t u) p.table;
      sequence = p.sequence;
      shallow = subst (StaysShallow n m) same
          (update_shallow n w.table after_u m items links0 links1 zero one leading);
    }

-- a node that neither tree lists is reached in neither copy
pub unlisted : (w : WriterView) (m : List ℕ) (node : ℕ) → IsMemoryAtRest w m → listed w.one_tree
    ≡ listed w.zero_tree → (Contains (listed w.zero_tree) node → ⊥) → IsUnreached m w.capacity node
unlisted w m node rest same free = (
  (λ r. free (reached_listed m w.capacity 0 w.zero_tree rest.zero.leads node r)),
  (λ r. free (subst (λ ns. Contains ns node) same
      (reached_listed m w.capacity 1 w.one_tree rest.one.leads node r))),
)

-- a latch at rest
pub rest_now : (w : WriterView) (l : Latch) → RepresentsLatch w l → w.stores_left ≡ []
    → IsMemoryAtRest w l.words
rest_now w l p idle = subst (λ ss. IsMemoryAtRest w (words_after_all l.words ss)) idle p.at_rest

-- a core that has made nothing pictures the opening
pub opening_pictures : (l : Layout) (start : ℕ) → stable_copy_of start ≡ 0
    → RepresentsLatch (opening_writer l start) (opening_latch (capacity_of l) start)
opening_pictures l start even =
    grind (arith, nat_tests, get_or-replicate, length-replicate, balanced_none, opening_shallow)

-- an update begins at rest
pub rests_before : {K : Type 0} (o : Order K) (w : WriterView) (u : Update)
    → why_refused o w u ≡ None → w.stores_left ≡ []
rests_before o w u accepted = nil-from_length w.stores_left
    (none_holds (all_tests o w.capacity w.limit (has_pending w) w.table w.sequence u) accepted).0
