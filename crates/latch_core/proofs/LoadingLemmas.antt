-- One load leads an attempt on: a reader's core, and an attempt whose loads are steps of somebody
-- who learns by them; and one in words that stand still.
use Rattle.latch_core.proofs.Words.{◌≡◌, ◌≢◌, ℕ, ◌+◌, ◌<◌, ◌≤◌, List, [], ◌∷◌, ◌++◌, Some, refl}
use Rattle.latch_core.proofs.Words.{sym, ◌∙◌, ap, subst, arith, append_assoc, length-append, suc}
use Rattle.latch_core.proofs.Words.{zero, true, false, length, Less, Equal, Greater, left_word, at}
use Rattle.latch_core.proofs.Words.{stable_copy_of, Item, Order, Reading, Load, Ends, Outcome}
use Rattle.latch_core.proofs.Words.{WalkEnd, outcome, last_load, after_item, visit, walk, attempt}
use Rattle.latch_core.proofs.Words.{attempt_after, rest_after, Stand, Again, AtItem, AtEmptyLink}
use Rattle.latch_core.proofs.Words.{IsReady, HasLoaded, HasTried, outcome_in, loads_in, ◌==◌}
use Rattle.latch_core.proofs.Words.{nat_lt, lt-ltb, ne_eqb, First, Root, WordA, WordB, Tag}
use Rattle.latch_core.proofs.Words.{nat_tests}
use Rattle.std.proofs.Common.{◌-◌, ◌*◌, append-nil}
use Rattle.std.specs.declared.cmp.Ordering.{Ordering}
use Rattle.latch_core.specs.Loading.{Leads}
use Rattle.latch_core.proofs.ReadingLemmas.{rest_push, stand_push, ends_as, within_below}
use Rattle.latch_core.specs.declared.readers.ReaderCore.{ReaderCore}
use Rattle.latch_core.specs.declared.progress.AttemptProgress.{AttemptProgress}
use Rattle.latch_core.specs.declared.progress.AwaitedValue.{AwaitedValue}
use Rattle.latch_core.specs.declared.progress.AwaitedValue.TheVariants.{Left as Go_left}
use Rattle.latch_core.specs.declared.progress.AwaitedValue.TheVariants.{Right as Go_right}
use Rattle.latch_core.specs.declared.progress.AwaitedValue.TheVariants.{Found as At_item}
use Rattle.latch_core.specs.declared.progress.AwaitedValue.TheVariants.{Missing as At_none}
use Rattle.latch_core.specs.declared.progress.AwaitedValue.TheVariants.{Stuck as At_stuck}
use Rattle.latch_core.specs.Cores.{rest_of_attempt, rest_of_core, HasTaken}
use Rattle.latch_core.proofs.WalkLemmas.{attempt_within}

-- a core that stands at a place whose reading is a load goes on with the value
pub next_from : {O K : Type 0} (o : Order K) (c : ReaderCore O K) (p : AwaitedValue) (w : ℕ)
    (go : ℕ → Reading) (x : ℕ) (values : List ℕ) → c.progress.awaited ≡ p
    → rest_of_attempt o c.key c.progress p ≡ Load w go → HasTaken o values c
    → rest_after (attempt o c.progress.capacity c.key) (values ++ x ∷ []) ≡ Some (go x)
next_from o c p w go x values is shape leads = grind (arith, nat_tests, rest_push)

-- each place waits for a word
loads_at : {K : Type 0} (o : Order K) (k : K) (s : AttemptProgress) (p : AwaitedValue)
    → (w : ℕ) × (go : ℕ → Reading) × (rest_of_attempt o k s p ≡ Load w go)
loads_at o k s First = (_, _, refl)
loads_at o k s Root = (_, _, refl)
loads_at o k s WordA = (_, _, refl)
loads_at o k s WordB = (_, _, refl)
loads_at o k s Tag = (_, _, refl)
loads_at o k s Go_left = (_, _, refl)
loads_at o k s Go_right = (_, _, refl)
loads_at o k s At_item = (_, _, refl)
loads_at o k s At_none = (_, _, refl)
loads_at o k s At_stuck = (_, _, refl)

pub core_loads : {O K : Type 0} (o : Order K) (c : ReaderCore O K)
    → (w : ℕ) × (go : ℕ → Reading) × (rest_of_core o c ≡ Load w go)
core_loads o c = loads_at o c.key c.progress c.progress.awaited

-- a core that goes on has taken at most 4n + 2 values
pub values_before : {K : Type 0} (o : Order K) (n : ℕ) (k : K) (values : List ℕ) (w : ℕ) (go : ℕ
    → Reading) → rest_after (attempt o n k) values ≡ Some (Load w go) → length values ≤ 4 * n + 2
values_before o n k values w go e =
    omega (arith, within_below (4 * n + 3) (attempt o n k) values w go (attempt_within o n k) e)

pub values_of_place : {K : Type 0} (o : Order K) (k : K) (s : AttemptProgress) (p : AwaitedValue)
    (values : List ℕ) → rest_after (attempt o s.capacity k) values ≡ Some (rest_of_attempt o k s p)
    → length values ≤ 4 * s.capacity + 2
values_of_place o k s p values leads = grind (arith, nat_tests, loads_at, values_before)

-- what a followed link leads to
pub walk_visits : {K : Type 0} (o : Order K) (n : ℕ) (k : K) (s visits link : ℕ) → link ≢ 0 → visits
    ≢ 0 → link ≤ n → visit o k s (link - 1) (walk o n k s (visits - 1)) ≡ walk o n k s visits link
walk_visits o n k s visits zero a b c = absurd (a refl)
walk_visits o n k s zero (suc i) a b c = absurd (b refl)
walk_visits o n k s (suc visits) (suc i) a b c =
    let e : suc i - 1 ≡ i = omega arith in
    let f : suc visits - 1 ≡ visits = omega arith in
    let within : nat_lt i n ≡ true = lt-ltb i n (omega arith) in
    rw (e, f, within) refl

-- another attempt begins where the two readings of the sequence differ
pub again : (s t : ℕ) (x : Item) → s ≢ t → outcome s t (AtItem x) ≡ Again
again s t x e = let other : (s == t) ≡ false = ne_eqb s t e in rw other refl

pub again_none : (s t : ℕ) → s ≢ t → outcome s t AtEmptyLink ≡ Again
again_none s t e = let other : (s == t) ≡ false = ne_eqb s t e in rw other refl

-- the same attempt by other names of its capacity and key
pub moved : {K : Type 0} (o : Order K) (n n' : ℕ) (k k' : K) (values : List ℕ) (r r' : Reading)
    → n' ≡ n → k' ≡ k → rest_after (attempt o n k) values ≡ Some r → r' ≡ r
    → rest_after (attempt o n' k') values ≡ Some r'
moved o n n' k k' values r r' en ek h er =
    (λ i. rest_after (attempt o (en i) (ek i)) values) ∙ h ∙ ap Some (sym er)

-- a core that goes on itself, or as one to which a followed link led
pub goes_on : {O K : Type 0} (o : Order K) (c : ReaderCore O K) (p : AwaitedValue) (w v : ℕ)
    (go go' : ℕ → Reading) (x : ℕ) (values : List ℕ) → c.progress.awaited ≡ p
    → rest_of_attempt o c.key c.progress p ≡ Load w go → HasTaken o values c
    → go x ≡ Load v go' → (c.progress.capacity ≡ c.progress.capacity) × (c.key ≡ c.key)
    × (rest_after (attempt o c.progress.capacity c.key) (values ++ x ∷ []) ≡ Some (Load v go'))
    × (length (values ++ x ∷ []) ≤ 4 * c.progress.capacity + 2)
goes_on o c p w v go go' x values is shape leads more =
    let h = next_from o c p w go x values is shape leads ∙ ap Some more in
    (refl, refl, h, values_before o c.progress.capacity c.key (values ++ x ∷ []) v go' h)

pub follows : {O K : Type 0} (o : Order K) (n : ℕ) (k : K) (c : ReaderCore O K) (values : List ℕ)
    (r : Reading) → c.progress.capacity ≡ n → c.key ≡ k
    → rest_after (attempt o n k) values ≡ Some r → rest_of_core o c ≡ r
    → (c.progress.capacity ≡ n) × (c.key ≡ k) × HasTaken o values c
    × (length values ≤ 4 * n + 2)
follows o n k c values r en ek h er = grind (arith, nat_tests, moved, values_of_place)

-- the place that an item's comparison leads to
abbrev pub side : Ordering → AwaitedValue
side Less = Go_left
side Equal = At_item
side Greater = Go_right

pub turned : {K : Type 0} (o : Order K) (k : K) (s : AttemptProgress) (r : Ordering) (q : Ordering)
    (p : AwaitedValue) → q ≡ r → p ≡ side q
    → after_item s.first s.node (record { a = s.a; b = s.b; tag = s.tag })
    (walk o s.capacity k s.first s.visits_left) r ≡ rest_of_attempt o k s p
turned o k s r Less p e f = grind (arith, nat_tests)
turned o k s r Equal p e f = grind (arith, nat_tests)
turned o k s r Greater p e f = grind (arith, nat_tests)

abbrev pub item_of : ℕ → ℕ → ℕ → Item
item_of a b t = record { a = a; b = b; tag = t }

module _ {S : Type 0} (gives : S → ℕ → ℕ → S → Type 0) where
  -- one load more
  leads_push : (s : S) (r : Reading) (v : List ℕ) (m : S) (w : ℕ) (go : ℕ → Reading) (x : ℕ)
      (m' : S)
      → Leads gives s r v m (Load w go) → gives m w x m' → Leads gives s r (v ++ x ∷ []) m' (go x)
  leads_push s (Load u go') [] m w go x m' h g = grind (arith, nat_tests)
  leads_push s (Ends out) [] m w go x m' h g = absurd (let e = h.1 in cc)
  leads_push s (Load u go') (y ∷ v) m w go x m' h g =
      (h.0, h.1, leads_push h.0 (go' y) v m w go x m' h.2 g)
  leads_push s (Ends out) (y ∷ v) m w go x m' h g = absurd h

  -- what stays true at each load is true where they lead
  pub leads_along : (P : S → List ℕ → Type 0) (whole : Reading)
      → ((m m' : S) (v : List ℕ) (w x : ℕ) (go : ℕ → Reading) → P m v
      → rest_after whole v ≡ Some (Load w go) → gives m w x m' → P m' (v ++ x ∷ []))
      → (s : S) (r : Reading) (u : List ℕ) → P s u → rest_after whole u ≡ Some r
      → (v : List ℕ) (m : S) (r' : Reading) → Leads gives s r v m r'
      → P m (u ++ v) × (rest_after whole (u ++ v) ≡ Some r')
  leads_along P whole step s r u p e [] m r' h = grind (arith, nat_tests, append-nil)
  leads_along P whole step s (Load w go) u p e (x ∷ v) m r' h =
      grind (
        arith,
        nat_tests,
        leads_along P whole step h.0 (go x) (u ++ x ∷ []) (step s h.0 u w x go p e h.1)
            (rest_push whole u w go x e) v m r' h.2,
        append_assoc,
        rest_push,
      )
  leads_along P whole step s (Ends out) u p e (x ∷ v) m r' h = absurd h

  pub starts : (s : S) (r : Reading) → HasLoaded gives s r s r 1
  starts s r = record { values = []; leads = (refl, refl); counted = refl }

  module _ (s : S) (r : Reading) (m : S) (word at_word loads : ℕ) (go : ℕ → Reading)
      (h : HasLoaded gives s r m (Load word go) loads) (is : at_word ≡ word) where
    pub may_load : (can : S → ℕ → Type 0) (can_end : S → Type 0) → IsReady can gives can_end s r
        → 0 < word → can m at_word
    may_load can can_end ready some =
        subst (can m) (sym is) (ready.loads h.values m word go h.leads some)

    pub loads_on : (x : ℕ) (m' : S) → gives m at_word x m'
        → HasLoaded gives s r m' (go x) (loads + 1)
    loads_on x m' g = record {
      values = h.values ++ x ∷ [];
      leads = leads_push s r h.values m word go x m' h.leads (subst (λ w. gives m w x m') is g);
      counted = ap (λ j. j + 1) (length-append h.values (x ∷ []) ∙ h.counted);
    }

  module _ {K : Type 0} (o : Order K) (n : ℕ) (k : K) (first : ℕ) (s : S) where
    -- a walk that came to this link, with as many visits left as four loads each leave
    pub record IsOn (m : S) (loads link : ℕ) : Type 0 where
      pub visits_left : ℕ
      pub few : loads + 4 * visits_left ≡ 4 * n + 2
      pub here : HasLoaded gives s (attempt_after o n k first) m (walk o n k first visits_left link)
          loads

    pub walk_starts : (m : S) (link : ℕ)
        → HasLoaded gives s (attempt_after o n k first) m (walk o n k first n link) 2
        → IsOn m 2 link
    walk_starts m link h = record { visits_left = n; few = omega arith; here = h }

    module _ (m : S) (loads link : ℕ) (on : IsOn m loads link) where
      pub enters : link ≢ 0 → link ≤ n → loads < 4 * n + 2
          → HasLoaded gives s (attempt_after o n k first) m
          (visit o k first (link - 1) (walk o n k first (on.visits_left - 1))) loads
      enters some low room = grind (arith, nat_tests, walk_visits)

      pub leaves : link ≢ 0 → loads < 4 * n + 2 → (m' : S) (next : ℕ)
          → HasLoaded gives s (attempt_after o n k first)
          m' (walk o n k first (on.visits_left - 1) next) (loads + 1 + 1 + 1 + 1)
          → IsOn m' (loads + 4) next
      leaves some room m' next h =
          let f = on.few in
          let four : loads + 1 + 1 + 1 + 1 ≡ loads + 4 = omega arith in
          record {
            visits_left = on.visits_left - 1;
            few = omega arith;
            here = subst (HasLoaded gives s (attempt_after o n k first)
                m' (walk o n k first (on.visits_left - 1) next)) four h;
          }

    -- the rest of a visit, by the item that was loaded
    pub turns : (m : S) (loads i : ℕ) (x : Item) (go : ℕ → Reading) (c c' : Ordering) → c ≡ c'
        → HasLoaded gives s (attempt_after o n k first) m (after_item first i x go c) loads
        → HasLoaded gives s (attempt_after o n k first) m (after_item first i x go c') loads
    turns m loads i x go c c' is h = subst (λ d.
        HasLoaded gives s (attempt_after o n k first) m (after_item first i x go d) loads) is h

-- where a walk goes on from an item that the key is not in
pub goes_aside : (first i : ℕ) (x : Item) (go : ℕ → Reading) (c : Ordering) (aside : ℕ)
    → (c ≢ Equal) → (c ≡ Less → aside ≡ 0) → (c ≡ Greater → aside ≡ 1)
    → after_item first i x go c ≡ Load (left_word (stable_copy_of first) i + aside) go
goes_aside first i x go Less aside not less greater = let e = less refl in
    ap (λ w. Load w go) (omega arith)
goes_aside first i x go Equal aside not less greater = absurd (not refl)
goes_aside first i x go Greater aside not less greater = let e = greater refl in
    ap (λ w. Load w go) (omega arith)

-- the values of a reading so far
leads_rest : {S : Type 0} (gives : S → ℕ → ℕ → S → Type 0) (s : S) (r : Reading) (v : List ℕ)
    (m : S) (r' : Reading) → Leads gives s r v m r' → rest_after r v ≡ Some r'
leads_rest gives s r [] m r' h = ap Some (sym h.1)
leads_rest gives s (Load w go) (x ∷ v) m r' h = leads_rest gives h.0 (go x) v m r' h.2
leads_rest gives s (Ends out) (x ∷ v) m r' h = absurd h

-- the second reading of the sequence
pub tries : {S K : Type 0} (gives : S → ℕ → ℕ → S → Type 0) (ends : S → ℕ → S → Type 0)
    (o : Order K) (n : ℕ) (k : K) (first : ℕ) (s m s' : S) (found : WalkEnd) (loads last : ℕ)
    (out : Outcome)
    → HasLoaded gives s (attempt_after o n k first) m (last_load first found) loads → ends m last s'
    → outcome first last found ≡ out → HasTried gives ends o n k first s s' out (loads + 1)
tries gives ends o n k first s m s' found loads last out h ended is = record {
  values = h.values;
  last = last;
  whole = rest_push (attempt o n k) (first ∷ h.values) 0 (λ t. Ends (outcome first t found)) last
      (leads_rest gives s (attempt_after o n k first) h.values m (last_load first found) h.leads)
      ∙ ap (λ z. Some (Ends z)) is;
  m = m;
  found = found;
  leads = h.leads;
  ended = ended;
  comes_to = sym is;
  counted = let c = h.counted in omega arith;
}

pub few : {S K : Type 0} (gives : S → ℕ → ℕ → S → Type 0) (o : Order K) (n : ℕ) (k : K) (first : ℕ)
    (s m : S) (found : WalkEnd) (loads : ℕ)
    → HasLoaded gives s (attempt_after o n k first) m (last_load first found) loads
    → loads + 1 ≤ 4 * n + 3
few gives o n k first s m found loads h =
    let before =
    values_before o n k (first ∷ h.values) 0 (λ t. Ends (outcome first t found)) (leads_rest
    gives s (attempt_after o n k first) h.values m (last_load first found) h.leads) in
    omega (arith, h.counted)

pub comes_to : {S K : Type 0} (o : Order K) (n : ℕ) (k : K) (words : List ℕ) (s s' : S)
    (out : Outcome) (loads : ℕ)
    → HasTried (λ (a : S) w x (b : S). x ≡ at words w) (λ (a : S) x (b : S). x ≡ at words 0) o n k
    (at words 0) s s' out loads
    → (out ≡ outcome_in words (attempt o n k)) × (loads ≡ loads_in words (attempt o n k))
comes_to {S} o n k words s s' out loads h =
    let gives = λ (a : S) (w x : ℕ) (b : S). x ≡ at words w in
    let first = at words 0 in
    let walked = leads_along gives (λ a v. Stand words (attempt o n k) v) (attempt o n k)
    (λ a b v w x go st e is. stand_push words (attempt o n k) v w go x e st (sym is))
    s (attempt_after o n k first) (first ∷ []) (refl, tt) refl h.values h.m
    (last_load first h.found) h.leads in
    let stand = stand_push words (attempt o n k) (first ∷ h.values) 0
    (λ t. Ends (outcome first t h.found)) h.last walked.1 walked.0 (sym h.ended) in
    let e = ends_as words (attempt o n k) (first ∷ (h.values ++ h.last ∷ [])) out stand h.whole in
    let one = length-append h.values (h.last ∷ []) in
    let counted = h.counted in
    (e.0, omega (arith, e.1))
