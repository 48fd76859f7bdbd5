-- Attempts in one memory: they look the key up in the table that the stable copy holds, and an
-- answer is given only where word 0 gives the first number again.
use Rattle.latch_core.proofs.Words.{◌≡◌, ℕ, suc, zero, ◌+◌, ◌^◌, ◌<◌, ◌≤◌, true, false, cond, List}
use Rattle.latch_core.proofs.Words.{length, Option, Some, None, refl, sym, ◌∙◌, ap, subst, inl, inr}
use Rattle.latch_core.proofs.Words.{arith, [], ◌∷◌, ◌++◌, ◌⊎◌, ◌==◌, nat_lt, Less, Equal, Greater}
use Rattle.latch_core.proofs.Words.{lt-ltb, ltb-true, eqb-true, Item, Order, IsLawful, IsTable}
use Rattle.latch_core.proofs.Words.{look, at, root_word, left_word, right_word, item_at, Nodes}
use Rattle.latch_core.proofs.Words.{none, fork, items, Holds, Reaches, by_left, by_right, InUse}
use Rattle.latch_core.proofs.Words.{generation_of, stable_copy_of, Outcome, Answer, Reading}
use Rattle.latch_core.proofs.Words.{Load, Ends, WalkEnd, AtItem, AtEmptyLink, outcome, last_load}
use Rattle.latch_core.proofs.Words.{after_item, visit, walk, attempt, rest_after, Stand, IsAttempt}
use Rattle.latch_core.proofs.Words.{Again, size, size_items, size_listed, IsBalanced, depth}
use Rattle.latch_core.proofs.Words.{balanced_depth, parted, look_less, look_greater, look_equal}
use Rattle.latch_core.proofs.Words.{outcome_in, loads_in, IsStanding, nat_tests, Stuck}
use Rattle.std.proofs.Common.{◌*◌}
use Rattle.std.proofs.lemmas.Bool.{eq-eqb}
use Rattle.word_layout.specs.Words.{Leads}
use Rattle.latch_core.proofs.ReadingLemmas.{AllLoads, Within, ends_as, loads_so_far, loads_below}
use Rattle.latch_core.proofs.ReadingLemmas.{within_length, stand_push}

-- how a walk ended, by what was looked up
abbrev pub found_of : Option Item → WalkEnd
found_of None = AtEmptyLink
found_of (Some x) = AtItem x

-- an attempt whose two readings of the sequence are equal gives what was looked up
pub answers : (s t g : ℕ) (r : Option Item) → s ≡ t → g ≡ generation_of t
    → outcome s t (found_of r) ≡ Answer r g
answers s t g None e f = let same : (s == t) ≡ true = eq-eqb s t e in
    rw same (ap (λ q. Answer None (generation_of q)) e ∙ ap (Answer None) (sym f))
answers s t g (Some x) e f = let same : (s == t) ≡ true = eq-eqb s t e in
    rw same (ap (λ q. Answer (Some x) (generation_of q)) e ∙ ap (Answer (Some x)) (sym f))

module _ {K : Type 0} (o : Order K) (law : IsLawful o) (m : List ℕ) (n : ℕ) (k : K) (s : ℕ) where
  -- a walk down a tree
  pub walk_ends : (t : Nodes) (left link : ℕ) → Leads m n (stable_copy_of s) link t
      → IsTable o (items m t) → size t ≤ left
      → outcome_in m (walk o n k s left link) ≡ outcome s (at m 0) (found_of (look o k (items m t)))
  walk_ends none left link leads table fits = subst
      (λ p. outcome_in m (walk o n k s left p) ≡ outcome s (at m 0) AtEmptyLink) (sym leads) refl
  walk_ends (fork l i r) zero link leads table fits = absurd (omega arith)
  walk_ends (fork l i r) (suc left) link leads table fits =
      subst (λ p. outcome_in m (walk o n k s (suc left) p)
      ≡ outcome s (at m 0) (found_of (look o k (items m (fork l i r))))) (sym leads.0)
      (let below : nat_lt i n ≡ true = lt-ltb i n leads.1 in
      let p = parted o (items m l) (item_at m i) (items m r) table in
      rw below
      (elim (o.comp k (item_at m i)) as (λ c. o.comp k (item_at m i) ≡ c
      → outcome_in m (after_item s i (item_at m i) (walk o n k s left) c)
      ≡ outcome s (at m 0) (found_of (look o k (items m (fork l i r))))) [
        | Less ↦ λ e.
            walk_ends l left (at m (left_word (stable_copy_of s) i)) leads.2 p.left (omega arith)
            ∙ ap (λ x. outcome s (at m 0) (found_of x))
            (sym (look_less o law k (items m l) (item_at m i) (items m r) table e))
        | Equal ↦ λ e. ap (λ x. outcome s (at m 0) (found_of x))
            (sym (look_equal o law k (items m l) (item_at m i) (items m r) table e))
        | Greater ↦ λ e.
            walk_ends r left (at m (right_word (stable_copy_of s) i)) leads.3 p.right (omega arith)
            ∙ ap (λ x. outcome s (at m 0) (found_of x))
            (sym (look_greater o law k (items m l) (item_at m i) (items m r) table e))
      ] refl))

depth_within : (t : Nodes) → depth t ≤ size t
depth_within none = omega arith
depth_within (fork l i r) = omega (arith, depth_within l, depth_within r)

module _ {K : Type 0} (o : Order K) (m : List ℕ) (n : ℕ) (k : K) (s : ℕ) where
  -- its loads: four for each node on the longest way down at most, and the closing one
  pub walk_depth : (t : Nodes) (left link : ℕ) → Leads m n (stable_copy_of s) link t → size t ≤ left
      → loads_in m (walk o n k s left link) ≤ 4 * depth t + 1
  walk_depth none left link leads fits =
      subst (λ p. loads_in m (walk o n k s left p) ≤ 1) (sym leads) (omega arith)
  walk_depth (fork l i r) zero link leads fits = absurd (omega arith)
  walk_depth (fork l i r) (suc left) link leads fits =
      subst (λ p. loads_in m (walk o n k s (suc left) p) ≤ 4 * depth (fork l i r) + 1) (sym leads.0)
      (let below : nat_lt i n ≡ true = lt-ltb i n leads.1 in
      rw below
      (elim (o.comp k (item_at m i)) as (λ c.
      suc (suc (suc (loads_in m (after_item s i (item_at m i) (walk o n k s left) c))))
      ≤ 4 * depth (fork l i r) + 1) [
        | Less ↦ omega
            (arith, walk_depth l left (at m (left_word (stable_copy_of s) i)) leads.2 (omega arith))
        | Equal ↦ omega arith
        | Greater ↦ omega (
          arith,
          walk_depth r left (at m (right_word (stable_copy_of s) i)) leads.3 (omega arith),
        )
      ]))

  -- the words that it loads are word 0 and words in use
  pub walk_uses : (left link : ℕ)
      → ((i : ℕ) → link ≡ suc i → i < n → Reaches m n (stable_copy_of s) i)
      → AllLoads m (λ w. (w ≡ 0) ⊎ InUse m n (stable_copy_of s) w) (walk o n k s left link)
  walk_uses left zero h = (inl refl, tt)
  walk_uses zero (suc i) h = (inl refl, tt)
  walk_uses (suc left) (suc i) h =
      elim (nat_lt i n) as (λ b. nat_lt i n ≡ b → AllLoads m (λ w. (w ≡ 0) ⊎ InUse m n
      (stable_copy_of s) w) (cond b (visit o k s i (walk o n k s left)) (last_load s Stuck))) [
        | false ↦ λ e. (inl refl, tt)
        | true ↦ λ e.
            let here : Reaches m n (stable_copy_of s) i = h i refl (ltb-true i n e) in (
              inr (inr (i, here, inl refl)),
              (
                inr (inr (i, here, inr (inl refl))),
                (
                  inr (inr (i, here, inr (inr (inl refl)))),
                  elim (o.comp k (item_at m i)) as (λ c. AllLoads m (λ w. (w ≡ 0) ⊎ InUse m n
                      (stable_copy_of s) w) (after_item s i (item_at m i) (walk o n k s left) c)) [
                        | Less ↦ (
                          inr (inr (i, here, inr (inr (inr (inl refl))))),
                          walk_uses left (at m (left_word (stable_copy_of s) i))
                              (λ j g lt. by_left i j here lt g),
                        )
                        | Equal ↦ (inl refl, tt)
                        | Greater ↦ (
                          inr (inr (i, here, inr (inr (inr (inr refl))))),
                          walk_uses left (at m (right_word (stable_copy_of s) i))
                              (λ j g lt. by_right i j here lt g),
                        )
                      ],
                ),
              ),
            )
      ] refl

-- whatever the words hold, a walk ends
pub walk_within : {K : Type 0} (o : Order K) (n : ℕ) (k : K) (s left link : ℕ)
    → Within (4 * left + 1) (walk o n k s left link)
walk_within o n k s left zero = let e : suc (4 * left) ≡ 4 * left + 1 = omega arith in
    subst (λ b. Within b (walk o n k s left zero)) e (λ t. tt)
walk_within o n k s zero (suc i) = λ t. tt
walk_within o n k s (suc left) (suc i) =
    let e : suc (suc (suc (suc (4 * left + 1)))) ≡ 4 * suc left + 1 = omega arith in
    subst (λ b. Within b (walk o n k s (suc left) (suc i))) e
    (elim (nat_lt i n) as (λ c. Within (suc (suc (suc (suc (4 * left + 1)))))
    (cond c (visit o k s i (walk o n k s left)) (last_load s Stuck))) [
      | false ↦ λ t. tt
      | true ↦ λ x y z.
          elim (o.comp k (record { a = x; b = y; tag = z })) as (λ c. Within (suc (4 * left + 1))
          (after_item s i (record { a = x; b = y; tag = z }) (walk o n k s left) c)) [
            | Less ↦ λ p. walk_within o n k s left p
            | Equal ↦ λ p. tt
            | Greater ↦ λ p. walk_within o n k s left p
          ]
    ])

-- an attempt takes at most 4n + 3 loads, whatever it loads
pub attempt_within : {K : Type 0} (o : Order K) (n : ℕ) (k : K) → Within (4 * n + 3) (attempt o n k)
attempt_within o n k =
    let e : suc (suc (4 * n + 1)) ≡ 4 * n + 3 = omega arith in
    subst (λ b. Within b (attempt o n k)) e (λ s p. walk_within o n k s n p)

pub attempt_length : {K : Type 0} (o : Order K) (n : ℕ) (k : K) (v : List ℕ) (r : Reading)
    → rest_after (attempt o n k) v ≡ Some r → length v ≤ 4 * n + 3
attempt_length o n k v r e = within_length (4 * n + 3) (attempt o n k) v r (attempt_within o n k) e

module _ {K : Type 0} (o : Order K) (law : IsLawful o) (m : List ℕ) (n : ℕ) (k : K)
    (table : List Item) (t : Nodes) (holds : Holds m n (stable_copy_of (at m 0)) table t)
    (is_table : IsTable o table) (fits : length table ≤ n) where
  small : size t ≤ n
  small = omega (arith, size_items m t, ap length holds.listed_items)

  sorted_items : IsTable o (items m t)
  sorted_items = subst (IsTable o) (sym holds.listed_items) is_table

  -- an attempt in this memory gives what the key finds in the table
  pub attempt_ran : outcome_in m (attempt o n k) ≡ Answer (look o k table) (generation_of (at m 0))
  attempt_ran =
      let seq = at m 0 in
      walk_ends o law m n k seq t n (at m (root_word (stable_copy_of seq))) holds.leads sorted_items
      small
      ∙ ap (λ xs. outcome seq seq (found_of (look o k xs))) holds.listed_items
      ∙ answers seq seq (generation_of seq) (look o k table) refl refl

  -- after four loads at most for each node on the longest way down, and for each item, and three
  pub attempt_depth_count : loads_in m (attempt o n k) ≤ 4 * depth t + 3
  attempt_depth_count = omega (
    arith,
    walk_depth o m n k (at m 0) t n (at m (root_word (stable_copy_of (at m 0)))) holds.leads small,
  )

  pub attempt_count : loads_in m (attempt o n k) ≤ 4 * length table + 3
  attempt_count = omega
      (arith, attempt_depth_count, depth_within t, size_items m t, ap length holds.listed_items)

  -- so does one whose values all stand in it
  pub attempt_answers : (v : List ℕ) (out : Outcome) → Stand m (attempt o n k) v
      → IsAttempt o n k v out → out ≡ Answer (look o k table) (generation_of (at m 0))
  attempt_answers v out st e = (ends_as m (attempt o n k) v out st e).0 ∙ attempt_ran

  pub attempt_loads : (v : List ℕ) → Stand m (attempt o n k) v → length v ≤ 4 * length table + 3
  attempt_loads v st = omega (arith, loads_so_far m (attempt o n k) v st, attempt_count)

  pub attempt_below : (v : List ℕ) (w : ℕ) (go : ℕ → Reading) → Stand m (attempt o n k) v
      → rest_after (attempt o n k) v ≡ Some (Load w go) → length v < 4 * length table + 3
  attempt_below v w go st e =
      omega (arith, loads_below m (attempt o n k) v w go st e, attempt_count)

  pub attempt_depth : (v : List ℕ) → Stand m (attempt o n k) v → length v ≤ 4 * depth t + 3
  attempt_depth v st = omega (arith, loads_so_far m (attempt o n k) v st, attempt_depth_count)

  pub attempt_below_depth : (v : List ℕ) (w : ℕ) (go : ℕ → Reading) → Stand m (attempt o n k) v
      → rest_after (attempt o n k) v ≡ Some (Load w go) → length v < 4 * depth t + 3
  attempt_below_depth v w go st e =
      omega (arith, loads_below m (attempt o n k) v w go st e, attempt_depth_count)

-- a copy that holds a table in a red-black tree
pub few_deep_any : (m : List ℕ) (n : ℕ) (table : List Item) (t : Nodes)
    → Holds m n (stable_copy_of (at m 0)) table t → IsBalanced t
    → 2 ^ depth t ≤ (length table + 1) * (length table + 1)
few_deep_any m n table t holds good =
    grind (arith, nat_tests, size_listed, size_items, balanced_depth)

-- an answer is given only at a load of word 0 that gives the first number again
abbrev AnswersAt : ℕ → ℕ → ℕ → Reading → Type 0
AnswersAt s w x (Load u go) = Unit {0}
AnswersAt s w x (Ends Again) = Unit {0}
AnswersAt s w x (Ends (Answer i g)) = (w ≡ 0) × (x ≡ s)

abbrev Closes : ℕ → Reading → Type 0
Closes s (Load w go) = (x : ℕ) → AnswersAt s w x (go x) × Closes s (go x)
Closes s (Ends out) = Unit {0}

if_equal : (s t : ℕ) (r : Option Item)
    → AnswersAt s 0 t (Ends (cond (s == t) (Answer r (generation_of s)) Again)) × Unit {0}
if_equal s t r = grind (arith, nat_tests, eqb-true)

closing_closes : (s : ℕ) (f : WalkEnd) → Closes s (last_load s f)
closing_closes s Stuck t = (tt, tt)
closing_closes s (AtItem i) t = if_equal s t (Some i)
closing_closes s AtEmptyLink t = if_equal s t None

module _ {K : Type 0} (o : Order K) (n : ℕ) (k : K) (s : ℕ) where
  not_answer : (w x left link : ℕ) → AnswersAt s w x (walk o n k s left link)
  not_answer w x left zero = tt
  not_answer w x zero (suc i) = tt
  not_answer w x (suc left) (suc i) = grind (arith, nat_tests)

  turn_answers : (w x i : ℕ) (y : Item) (left : ℕ)
      → AnswersAt s w x (after_item s i y (walk o n k s left) (o.comp k y))
  turn_answers w x i y left = elim (o.comp k y) as (λ c. AnswersAt s w x
      (after_item s i y (walk o n k s left) c)) [ Less ↦ tt | Equal ↦ tt | Greater ↦ tt ]

  walk_closes : (left link : ℕ) → Closes s (walk o n k s left link)
  walk_closes left zero = closing_closes s AtEmptyLink
  walk_closes zero (suc i) = closing_closes s Stuck
  walk_closes (suc left) (suc i) =
      elim (nat_lt i n) as (λ b.
      Closes s (cond b (visit o k s i (walk o n k s left)) (last_load s Stuck))) [
        | false ↦ closing_closes s Stuck
        | true ↦ λ a. (
          tt,
          λ b. (
            tt,
            λ tag.
                let y : Item = record { a = a; b = b; tag = tag } in (
                  turn_answers _ tag i y left,
                  elim (o.comp k y) as (λ c. Closes s (after_item s i y (walk o n k s left) c)) [
                    | Less ↦ λ p. (not_answer _ p left p, walk_closes left p)
                    | Equal ↦ closing_closes s (AtItem y)
                    | Greater ↦ λ p. (not_answer _ p left p, walk_closes left p)
                  ],
                ),
          ),
        )
      ]

closes_rest : (s : ℕ) (r : Reading) (v : List ℕ) (r' : Reading) → Closes s r
    → rest_after r v ≡ Some r' → Closes s r'
closes_rest s r [] r' h e = let same : r ≡ r' = cc in subst (Closes s) same h
closes_rest s (Load w go) (x ∷ v) r' h e = closes_rest s (go x) v r' (h x).1 e
closes_rest s (Ends out) (x ∷ v) r' h e = absurd (cc)

-- one load more
pub standing_push : (m : List ℕ) (go0 : ℕ → Reading) (v : List ℕ) (word : ℕ) (go : ℕ → Reading)
    → rest_after (Load 0 go0) v ≡ Some (Load word go) → IsStanding m (Load 0 go0) v
    → IsStanding m (Load 0 go0) (v ++ at m word ∷ [])
standing_push m go0 [] word go e st = grind (arith, nat_tests)
standing_push m go0 (s ∷ v) word go e st =
    (st.0, λ is. stand_push m (Load 0 go0) (s ∷ v) word go (at m word) e (st.1 is) refl)

-- an answer: its first number is the sequence
pub answer_first : {K : Type 0} (o : Order K) (n : ℕ) (k : K) (m : List ℕ) (v : List ℕ) (word : ℕ)
    (go : ℕ → Reading) (i : Option Item) (g : ℕ)
    → rest_after (attempt o n k) v ≡ Some (Load word go) → IsStanding m (attempt o n k) v
    → go (at m word) ≡ Ends (Answer i g) → Stand m (attempt o n k) v
answer_first o n k m [] word go i g e st is = tt
answer_first o n k m (s ∷ v) word go i g e st is =
    let first : Closes s (Load (root_word (stable_copy_of s)) (walk o n k s n)) =
    λ p. (not_answer o n k s _ p n p, walk_closes o n k s n p) in
    let at_end = (closes_rest s (Load (root_word (stable_copy_of s)) (walk o n k s n)) v
    (Load word go) first e (at m word)).0 in
    let both : AnswersAt s word (at m word) (Ends (Answer i g)) =
    subst (AnswersAt s word (at m word)) is at_end in
    st.1 (sym both.1 ∙ ap (at m) both.0)
