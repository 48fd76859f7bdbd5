-- A reader whose view is kept in numbers: each load, and a whole attempt.
use Rattle.latch_weak.proofs.Words.{◌≡◌, ℕ, ◌<◌, ◌≤◌, true, false, cond, Bool, List, [], ◌∷◌, ◌++◌}
use Rattle.latch_weak.proofs.Words.{length, get_or, set, refl, sym, ◌∙◌, ap, subst, arith}
use Rattle.latch_weak.proofs.Words.{get_or-set_other, get_or-set_same, length-set, ◌==◌, ◌&&◌, max}
use Rattle.latch_weak.proofs.Words.{eqb-true, eqb-false, Order, Store, at, Reading, Load, Ends}
use Rattle.latch_weak.proofs.Words.{Outcome, attempt_after, attempt, outcome, rest_after, words_at}
use Rattle.latch_weak.proofs.Words.{Barriers, last_store, ordered_before, View, Glance, MayLoad}
use Rattle.latch_weak.proofs.Words.{raised, after_load, after_first, before_load, value_at}
use Rattle.latch_weak.proofs.Words.{AreLoads, values_seen, view_left}
use Rattle.latch_core.specs.Loading.{Leads, IsReady, HasTried}
use Rattle.latch_core.proofs.LoadingLemmas.{leads_along}
use Rattle.latch_weak.specs.declared.attempts.ReaderView.{ReaderView}
use Rattle.latch_weak.specs.Readers.{Choice, next_load, AreChosen, loads_after, last_of, view_of}
use Rattle.latch_weak.specs.Readers.{IsReaderOf, Looks, StandsBefore, LooksFirst, LooksNext}
use Rattle.latch_weak.specs.Readers.{HasAttempted}
use Rattle.latch_weak.proofs.BarrierLemmas.{last_at_most, ordered_at_most}

module _ (chooses : Choice) (b : Barriers) (m : List ℕ) (ss : List Store) where
  -- the least moment of each word after a load of one
  word_after : (old : List ℕ) (floor w j u : ℕ) → w < length old
      → max (get_or (set old w (max (get_or old w 0) j)) u 0) floor
      ≡ cond (u == w) (max (max (get_or old u 0) floor) j) (max (get_or old u 0) floor)
  word_after old floor w j u within =
      elim (u == w) as (λ c. (u == w) ≡ c → max (get_or (set old w (max (get_or old w 0) j)) u 0)
      floor ≡ cond c (max (max (get_or old u 0) floor) j) (max (get_or old u 0) floor)) [
        | true ↦ λ e.
            let is : u ≡ w = eqb-true u w e in
            let new : get_or (set old w (max (get_or old w 0) j)) u 0 ≡ max (get_or old w 0) j =
            ap (λ x. get_or (set old w (max (get_or old w 0) j)) x 0) is
            ∙ get_or-set_same old w (max (get_or old w 0) j) 0 within in
            let same : get_or old u 0 ≡ get_or old w 0 = ap (λ x. get_or old x 0) is in
            omega arith
        | false ↦ λ e. ap (λ x. max x floor)
            (get_or-set_other old w u (max (get_or old w 0) j) 0 (eqb-false u w e))
      ] refl

  bounded : (c : Bool) (x j : ℕ) → x ≤ length ss → j ≤ length ss → cond c (max x j) x ≤ length ss
  bounded true x j xs js = omega arith
  bounded false x j xs js = xs

  bounded_first : (c : Bool) (y : ℕ) → y ≤ length ss → cond c y 0 ≤ length ss
  bounded_first true y le = le
  bounded_first false y le = omega arith

  module _ (r r' : ReaderView) (w x : ℕ) (g : Glance) (is : IsReaderOf m ss r)
      (within : w < length m) where
    -- one load
    pub looked : chooses r.loads w r.last (max (get_or r.least.items w 0) r.floor) (length ss) g
        → r'.loads ≡ next_load r.loads → max (get_or r.least.items w 0) r.floor ≤ g.moment
        → g.moment ≤ g.made → r.last.made ≤ g.made → g.made ≤ length ss
        → r'.least.items
        ≡ set r.least.items w (max (get_or r.least.items w 0) (last_store ss w g.moment))
        → r'.floor ≡ r.floor
        → r'.at_barrier ≡ max r.at_barrier (ordered_before b ss (last_store ss w g.moment))
        → r'.last ≡ g → x ≡ at (words_at m ss g.moment) w
        → Looks chooses b m ss r w x r'
    looked chosen counted seen stored later exists least floor barrier last value =
        let j = last_store ss w g.moment in
        let sized = is.sized in
        let behind : j ≤ length ss = omega (arith, last_at_most ss w g.moment) in
        let words : (u : ℕ) → max (get_or r'.least.items u 0) r'.floor ≡ cond (u == w) (max
        (max (get_or r.least.items u 0) r.floor) j) (max (get_or r.least.items u 0) r.floor)
        = λ u. ap (λ l. max (get_or l u 0) r'.floor) least
        ∙ ap (max (get_or (set r.least.items w (max (get_or r.least.items w 0) j)) u 0)) floor
        ∙ word_after r.least.items r.floor w j u (omega arith) in
        let view : view_of r' ≡ after_load b ss (view_of r) w g.moment =
        λ i. record { of_word = λ u. words u i; at_barrier = barrier i } in
        record {
          chosen = subst (λ q. chooses r.loads w r.last ((view_of r).of_word w) (length ss) q)
              (sym last) chosen;
          counted = counted;
          may = subst (λ q. MayLoad ss (view_of r) w r.last.made q) (sym last)
              (record { seen = seen; stored = stored; later = later; exists = exists });
          value_is = value ∙ ap (λ (q : Glance). at (words_at m ss q.moment) w) (sym last);
          view_is = view ∙ ap (λ (q : Glance). after_load b ss (view_of r) w q.moment) (sym last);
          still = record {
            sized = ap length least ∙ length-set r.least.items w (max (get_or r.least.items w 0) j)
                ∙ is.sized;
            seen = λ u. subst (λ y. y ≤ length ss) (sym (words u))
                (bounded (u == w) (max (get_or r.least.items u 0) r.floor) j (is.seen u) behind);
            barrier = (let old = is.barrier in omega (arith, barrier, ordered_at_most b ss j));
            made = (let e = ap (λ (q : Glance). q.made) last in omega arith);
          };
        }

  -- a reader whose floor was raised
  raised_still : (r r' : ReaderView) (least : ℕ) → IsReaderOf m ss r → least ≤ length ss
      → view_of r' ≡ raised (view_of r) least → r'.least.items ≡ r.least.items
      → r'.at_barrier ≡ r.at_barrier → r'.last ≡ r.last → IsReaderOf m ss r'
  raised_still r r' least is few view words barrier last = record {
    sized = ap length words ∙ is.sized;
    seen = λ u. (let e : (view_of r').of_word u ≡ max ((view_of r).of_word u) least =
        ap (λ (v : View). v.of_word u) view in let s = is.seen u in omega arith);
    barrier = (let old = is.barrier in omega arith);
    made = (let e = ap (λ (q : Glance). q.made) last in let old = is.made in omega arith);
  }

  -- the first load, with what the dependency orders after it
  pub looked_first : (r n r' : ReaderView) (x least : ℕ) → Looks chooses b m ss r 0 x n
      → least ≡ cond b.dependency (ordered_before b ss (last_store ss 0 n.last.moment)) 0
      → view_of r' ≡ raised (view_of n) least → r'.least.items ≡ n.least.items → r'.at_barrier
      ≡ n.at_barrier → r'.last ≡ n.last → r'.loads ≡ n.loads → LooksFirst chooses b m ss r x r'
  looked_first r n r' x least looks is view words barrier last loads =
      let made = looks.still.made in
      let stored = looks.may.stored in
      let moment = n.last.moment in
      let few : cond b.dependency (ordered_before b ss (last_store ss 0 moment)) 0 ≤ length ss =
      bounded_first b.dependency (ordered_before b ss (last_store ss 0 moment)) (omega
      (arith, ordered_at_most b ss (last_store ss 0 moment), last_at_most ss 0 moment)) in
      record {
        chosen = subst (λ q. chooses r.loads 0 r.last ((view_of r).of_word 0) (length ss) q)
            (sym last) looks.chosen;
        counted = loads ∙ looks.counted;
        may = subst (λ q. MayLoad ss (view_of r) 0 r.last.made q) (sym last) looks.may;
        value_is = looks.value_is ∙ ap (λ (q : Glance). value_at m ss 0 q) (sym last);
        view_is = view ∙ ap (λ v. raised v least) looks.view_is
            ∙ ap (raised (after_load b ss (view_of r) 0 moment)) is
            ∙ ap (λ (q : Glance). after_first b ss (view_of r) q.moment) (sym last);
        still = raised_still n r' least looks.still (omega arith) view words barrier last;
      }

  -- before a later load
  pub next_ready : (r n : ReaderView) (w : ℕ) → IsReaderOf m ss r → StandsBefore b r n w
      → IsReaderOf m ss n
  next_ready r n w is h =
      raised_still r n (cond (b.before_last && (w == 0)) r.at_barrier 0) is
      (bounded_first (b.before_last && (w == 0)) r.at_barrier is.barrier) h.view h.words
      h.barrier h.last

  pub looked_next : (r n r' : ReaderView) (w x : ℕ) → StandsBefore b r n w
      → Looks chooses b m ss n w x r' → LooksNext chooses b m ss r w x r'
  looked_next r n r' w x h looks = record {
    chosen = subst (λ v. chooses r.loads w r.last (v.of_word w) (length ss) r'.last) h.view (subst
        (λ i. chooses i w r.last ((view_of n).of_word w) (length ss) r'.last) h.loads (subst (λ q.
        chooses n.loads w q ((view_of n).of_word w) (length ss) r'.last) h.last looks.chosen));
    counted = looks.counted ∙ ap next_load h.loads;
    may = subst (λ v. MayLoad ss v w r.last.made r'.last) h.view
        (subst (λ (q : Glance). MayLoad ss (view_of n) w q.made r'.last) h.last looks.may);
    value_is = looks.value_is;
    view_is = looks.view_is ∙ ap (λ v. after_load b ss v w r'.last.moment) h.view;
    still = looks.still;
  }

  -- a first load that orders nothing after it
  pub looked_alone : (r n : ReaderView) (x : ℕ) → Looks chooses b m ss r 0 x n
      → b.dependency ≡ false → LooksFirst chooses b m ss r x n
  looked_alone r n x looks none =
      looked_first r n n x 0 looks
      (ap (λ c. cond c (ordered_before b ss (last_store ss 0 n.last.moment)) 0) (sym none))
      (λ i. record {
        of_word = λ u. (let e : max (get_or n.least.items u 0) n.floor
            ≡ max (max (get_or n.least.items u 0) n.floor) 0 = omega arith in e i);
        at_barrier = n.at_barrier;
      }) refl refl refl refl

  abbrev gives : ReaderView → ℕ → ℕ → ReaderView → Type 0
  gives s w x s' = LooksNext chooses b m ss s w x s'

  -- a reader stays one at each load, so it may make the next
  pub ready : {K : Type 0} (o : Order K) (n : ℕ) (k : K) (first : ℕ) (s : ReaderView)
      → IsReaderOf m ss s
      → IsReady (λ q w. IsReaderOf m ss q) gives (λ q. IsReaderOf m ss q) s
      (attempt_after o n k first)
  ready o n k first s is =
      let led = λ (v : List ℕ) (q : ReaderView) (r : Reading)
      (h : Leads gives s (attempt_after o n k first) v q r).
      (leads_along gives (λ a u. IsReaderOf m ss a) (attempt_after o n k first)
      (λ a a' u w x go p e g. g.still) s (attempt_after o n k first) [] is refl v q r h).0 in
      record { loads = λ v q w go h some. led v q (Load w go) h; ends = λ v q r h. led v q r h }

  -- what these loads looked at
  record HasLooked (s : ReaderView) (r : Reading) (values : List ℕ) (s' : ReaderView) : Type 0 where
    glances : List Glance
    loads : AreLoads b m ss (view_of s) s.last.made r glances
    seen : values_seen m ss r glances ≡ values
    leaves : view_left b m ss (view_of s) r glances ≡ view_of s'
    chosen : AreChosen chooses b m ss (view_of s) s.loads s.last r glances
    last : s'.last ≡ last_of s.last glances
    counted : s'.loads ≡ loads_after s.loads glances

  last_looked : (s s' : ReaderView) (last : ℕ) (go : ℕ → Reading)
      → LooksNext chooses b m ss s 0 last s' → HasLooked s (Load 0 go) (last ∷ []) s'
  last_looked s s' last go g = record {
    glances = s'.last ∷ [];
    loads = (g.may, tt);
    seen = ap (λ x. x ∷ []) (sym g.value_is);
    leaves = sym g.view_is;
    chosen = (g.chosen, tt);
    last = refl;
    counted = g.counted;
  }

  all_looked : (s s' q : ReaderView) (r : Reading) (v : List ℕ) (last : ℕ) (go : ℕ → Reading)
      → Leads gives s r v q (Load 0 go) → LooksNext chooses b m ss q 0 last s'
      → HasLooked s r (v ++ last ∷ []) s'
  all_looked s s' q r [] last go h g =
      subst (λ (z : ReaderView × Reading). HasLooked z.0 z.1 (last ∷ []) s') (λ i. (h.0 i, h.1 i))
      (last_looked q s' last go g)
  all_looked s s' q (Load w on) (x ∷ v) last go (n, g, h) e =
      let rest = all_looked n s' q (on x) v last go h e in
      let is : x ≡ value_at m ss w n.last = g.value_is in
      let there : HasLooked n (on (value_at m ss w n.last)) (v ++ last ∷ []) s' =
      subst (λ y. HasLooked n (on y) (v ++ last ∷ []) s') is rest in
      let from = before_load b (view_of s) w in
      record {
        glances = n.last ∷ there.glances;
        loads = (
          g.may,
          subst (λ z. AreLoads b m ss z n.last.made (on (value_at m ss w n.last)) there.glances)
              g.view_is there.loads,
        );
        seen = ap (λ y. y ∷ values_seen m ss (on (value_at m ss w n.last)) there.glances) (sym is)
            ∙ ap (λ l. x ∷ l) there.seen;
        leaves =
            ap (λ z. view_left b m ss z (on (value_at m ss w n.last)) there.glances) (sym g.view_is)
            ∙ there.leaves;
        chosen = (
          g.chosen,
          subst (λ z. AreChosen chooses b m ss z (next_load s.loads) n.last
              (on (value_at m ss w n.last)) there.glances) g.view_is
              (subst (λ i. AreChosen chooses b m ss (view_of n) i n.last
              (on (value_at m ss w n.last)) there.glances) g.counted there.chosen),
        );
        last = there.last;
        counted = there.counted ∙ ap (λ i. loads_after i there.glances) g.counted;
      }
  all_looked s s' q (Ends out) (x ∷ v) last go h e = absurd h

  -- a whole attempt
  pub attempted : {K : Type 0} (o : Order K) (n : ℕ) (k : K) (s f s' : ReaderView) (first : ℕ)
      (out : Outcome) (count : ℕ) → LooksFirst chooses b m ss s first f
      → IsReaderOf m ss f
      → HasTried gives (λ q x q'. LooksNext chooses b m ss q 0 x q') o n k first f s' out count
      → HasAttempted chooses b o n m ss s k out s'
  attempted o n k s f s' first out count begun is h =
      let looked = all_looked f s' h.m (attempt_after o n k first) h.values h.last
      (λ t. Ends (outcome first t h.found)) h.leads h.ended in
      let value : first ≡ value_at m ss 0 f.last = begun.value_is in
      let there : HasLooked f (attempt_after o n k (value_at m ss 0 f.last))
      (h.values ++ h.last ∷ []) s' = subst
      (λ y. HasLooked f (attempt_after o n k y) (h.values ++ h.last ∷ []) s') value looked in
      let r = attempt_after o n k (value_at m ss 0 f.last) in
      let values : values_seen m ss (attempt o n k) (f.last ∷ there.glances)
      ≡ first ∷ (h.values ++ h.last ∷ []) =
      ap (λ y. y ∷ values_seen m ss r there.glances) (sym value) ∙ ap (λ l. first ∷ l) there.seen in
      record {
        glances = f.last ∷ there.glances;
        tried = record {
          loads = (
            begun.may,
            subst (λ z. AreLoads b m ss z f.last.made r there.glances) begun.view_is there.loads,
          );
          whole = ap (rest_after (attempt o n k)) values ∙ h.whole;
        };
        chosen = (
          begun.chosen,
          subst (λ z. AreChosen chooses b m ss z (next_load s.loads) f.last r there.glances)
              begun.view_is
              (subst (λ i. AreChosen chooses b m ss (view_of f) i f.last r there.glances)
              begun.counted there.chosen),
        );
        leaves =
            sym (ap (λ z. view_left b m ss z r there.glances) (sym begun.view_is) ∙ there.leaves);
        last = there.last;
        counted = there.counted ∙ ap (λ i. loads_after i there.glances) begun.counted;
        still = h.ended.still;
      }
