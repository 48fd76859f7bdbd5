-- What the methods of a world do to the moments that it shows.
use Rattle.latch_steps.proofs.Definitions.{◌≡◌, ◌≢◌, ℕ, Bool, true, false, cond, Option, Some, None}
use Rattle.latch_steps.proofs.Definitions.{refl, sym, ◌∙◌, ap, subst, ⊎_elim, arith, ◌<◌, ◌≤◌, List}
use Rattle.latch_steps.proofs.Definitions.{[], ◌∷◌, length, inl, inr, Vec, Global, nat_cmp}
use Rattle.latch_steps.proofs.Definitions.{option_flatten, BTreeMap, is_at, FinMap, get, insert}
use Rattle.latch_steps.proofs.Definitions.{remove, empty, get-empty, cases_eq, lt-ltb, Order}
use Rattle.latch_steps.proofs.Definitions.{get-insert_other, get-insert_same, get-remove_other}
use Rattle.latch_steps.proofs.Definitions.{get-remove_same, Lookup, PendingLookup, Moment}
use Rattle.latch_steps.proofs.Definitions.{IsPendingLookup, IsLookupOf, lookup_at, LoadsTo}
use Rattle.latch_steps.proofs.Definitions.{ArePendingLookups, RepresentsMoment, IsAtRest, ◌⊎◌}
use Rattle.latch_steps.proofs.Definitions.{is_some, nat_lt, Refusal, OutOfMemory, ReaderBusy}
use Rattle.latch_steps.proofs.Definitions.{ReaderIdle, Store, capacity_of, limit_of, at}
use Rattle.latch_steps.proofs.Definitions.{words_after, Update, WriterView, refusal_for, most_steps}
use Rattle.latch_steps.proofs.Definitions.{PendingUpdate, Latch, IsWriterStep, latch_after_step}
use Rattle.latch_steps.proofs.Definitions.{latch_with_update, RepresentsLatch, HasBegun}
use Rattle.latch_steps.proofs.Definitions.{has_pending, why_refused, writer_after_step, Begin}
use Rattle.latch_steps.proofs.Definitions.{Write, Start, Read, Reply, Begun, Wrote, Idle, Started}
use Rattle.latch_steps.proofs.Definitions.{Refused, World, AfterLoad, counted_up, with_event}
use Rattle.latch_steps.proofs.Definitions.{new_lookup, with_latch, with_lookups, IsBegin, IsWrite}
use Rattle.latch_steps.proofs.Definitions.{after_load, start_done, load_done, read_done}
use Rattle.latch_steps.proofs.Definitions.{writes_left, Does, MayDo}
use Rattle.std.specs.BTreeMap.{get as tree_get}
use Rattle.std.proofs.lemmas.Bool.Decides.{nat_tests}
use Rattle.latch_core.proofs.TestLemmas.{never_for_memory}
use Rattle.latch_core.specs.Plans.{IsPlan}
use Rattle.latch_steps.specs.declared.replies.Returned.{Returned}
use Rattle.latch_steps.specs.declared.replies.Reply.TheVariants.{Returned as ReturnedReply}
use Rattle.latch_steps.specs.declared.lookups.LoadOutcome.TheVariants.{Returned as ReturnedLoad}

-- the code's map and that of a moment, changed at one reader alone
module _ {O K : Type 0} (o : Order K) (n : ℕ) where
  pub in_hand_at : (cs ds : ℕ → Option (Lookup O K)) (ls ms : FinMap nat_cmp (PendingLookup K))
      (r : ℕ) (left : Option (Lookup O K)) → ArePendingLookups o n cs ls
      → ((q : ℕ) → ds q ≡ cond (is_at (nat_cmp r) q) left (cs q))
      → IsPendingLookup o n left (get ms r)
      → ((q : ℕ) → q ≢ r → get ms q ≡ get ls q) → ArePendingLookups o n ds ms
  in_hand_at cs ds ls ms r left h e is others q =
      ⊎_elim
      (λ same.
      let here : is_at (nat_cmp r) r ≡ true = grind (arith, nat_tests) in
      let f : ds r ≡ left = e r ∙ ap (λ b. cond b left (cs r)) here in
      subst (λ j. IsPendingLookup {O = O} o n (ds j) (get ms j)) (sym same)
      (subst (λ x. IsPendingLookup {O = O} o n x (get ms r)) (sym f) is))
      (λ ne.
      let there : is_at (nat_cmp r) q ≡ false = grind (arith, nat_tests) in
      let f : ds q ≡ cs q = e q ∙ ap (λ b. cond b left (cs q)) there in
      subst (λ x. IsPendingLookup {O = O} o n x (get ms q)) (sym f)
      (subst (λ x. IsPendingLookup {O = O} o n (cs q) x) (sym (others q ne)) (h q)))
      (cases_eq q r)

  pub in_hand_set : (cs ds : ℕ → Option (Lookup O K)) (ls : FinMap nat_cmp (PendingLookup K))
      (r : ℕ) (new : Lookup O K) (l : PendingLookup K) → ArePendingLookups o n cs ls
      → ((q : ℕ) → ds q ≡ cond (is_at (nat_cmp r) q) (Some new) (cs q)) → IsLookupOf o n new l
      → ArePendingLookups o n ds (insert ls r l)
  in_hand_set cs ds ls r new l h e is =
      in_hand_at cs ds ls (insert ls r l) r (Some new) h e
      (subst (IsPendingLookup o n (Some new)) (sym (get-insert_same ls r l)) is)
      (λ q ne. get-insert_other ls q r l ne)

  pub in_hand_remove : (cs ds : ℕ → Option (Lookup O K)) (ls : FinMap nat_cmp (PendingLookup K))
      (r : ℕ) → ArePendingLookups o n cs ls
      → ((q : ℕ) → ds q ≡ cond (is_at (nat_cmp r) q) None (cs q))
      → ArePendingLookups o n ds (remove ls r)
  in_hand_remove cs ds ls r h e =
      in_hand_at cs ds ls (remove ls r) r None h e
      (subst (IsPendingLookup {O = O} o n None) (sym (get-remove_same ls r)) tt)
      (λ q ne. get-remove_other ls q r ne)

-- the readers' places after a change at one of them
module _ {O K : Type 0} (old new : BTreeMap ℕ (Option (Lookup O K))) (r : ℕ)
    (place : Option (Lookup O K)) (e : (q : ℕ) → tree_get nat_cmp new q
    ≡ cond (is_at (nat_cmp r) q) (Some place) (tree_get nat_cmp old q)) where
  pub lookup_set : (q : ℕ) → lookup_at new q ≡ cond (is_at (nat_cmp r) q) place (lookup_at old q)
  lookup_set q = ap option_flatten (e q) ∙ by (is_at (nat_cmp r) q)
    where
      by : (b : Bool) → option_flatten (cond b (Some place) (tree_get nat_cmp old q))
          ≡ cond b place (lookup_at old q)
      by true = refl
      by false = refl

  -- which may be none
  pub lookup_kept : place ≡ lookup_at old r → (q : ℕ) → lookup_at new q ≡ lookup_at old q
  lookup_kept same q =
      lookup_set q
      ∙ ⊎_elim
      (λ here. by_place (is_at (nat_cmp r) q) (same ∙ ap (lookup_at old) (sym here)))
      (λ ne. let there : is_at (nat_cmp r) q ≡ false = grind (arith, nat_tests) in
      ap (λ b. cond b place (lookup_at old q)) there)
      (cases_eq q r)
    where
      by_place : (b : Bool) → place ≡ lookup_at old q
          → cond b place (lookup_at old q) ≡ lookup_at old q
      by_place true f = f
      by_place false f = refl

-- the pending lookup that is shown
module _ {O K : Type 0} (o : Order K) (n : ℕ) where
  pub shown : (c : Option (Lookup O K)) (m : Option (PendingLookup K)) (lk : Lookup O K)
      → Some lk ≡ c → IsPendingLookup o n c m
      → (l : PendingLookup K) × (m ≡ Some l) × IsLookupOf o n lk l
  shown None m lk e h = absurd (cc)
  shown (Some k) None lk e h = absurd h
  shown (Some k) (Some l) lk e h = let same : k ≡ lk = cc in
      (l, refl, subst (λ (x : Lookup O K). IsLookupOf o n x l) same h)

  pub shown_none : (c : Option (Lookup O K)) (m : Option (PendingLookup K)) → c ≡ None
      → IsPendingLookup o n c m → m ≡ None
  shown_none None None e h = refl
  shown_none None (Some l) e h = absurd h
  shown_none (Some k) m e h = absurd (cc)

  pub shown_some : (c : Option (Lookup O K)) (m : Option (PendingLookup K)) → is_some c ≡ true
      → IsPendingLookup o n c m → (l : PendingLookup K) × (m ≡ Some l)
  shown_some None m e h = absurd (cc)
  shown_some (Some k) None e h = absurd h
  shown_some (Some k) (Some l) e h = (l, refl)

-- the writer
module _ {O K : Type 0} (o : Order K) (c : World O K) where
  pub counts : (w : Moment K) (y : ℕ) → RepresentsMoment o c w → y ≡ counted_up c.events
      → RepresentsMoment o (record c { events = y }) (with_event w)
  counts w y s e = record {
    capacity = s.capacity;
    limit = s.limit;
    words = s.words;
    writer = s.writer;
    lookups = s.lookups;
    events = e ∙ ap counted_up s.events;
  }

  -- stores are left just where an update is pending, and as many as it has steps left
  pub hand_shown : (w : Moment K) → RepresentsMoment o c w
      → nat_lt 0 (length c.writer.stores_left) ≡ is_some w.latch.pending
  hand_shown w s = busy_plan c.writer.stores_left w.latch s.writer.plan
    where
      busy_plan : (left : List Store) (l : Latch) → IsPlan c.writer.capacity l left
          → nat_lt 0 (length left) ≡ is_some l.pending
      busy_plan [] l plan = ap is_some (sym plan)
      busy_plan (t ∷ ts) l plan = (let some : nat_lt 0 (length (t ∷ ts)) ≡ true =
          lt-ltb 0 (length (t ∷ ts)) (omega arith) in some) ∙ ap is_some (sym plan.1)

  pub left_shown : (w : Moment K) → RepresentsMoment o c w → (n : ℕ)
      → n ≡ length c.writer.stores_left
      → ((l : Latch) (h : PendingUpdate) → RepresentsLatch c.writer l → l.pending ≡ Some h
      → h.steps_left ≡ n)
      → n ≡ writes_left w.latch.pending
  left_shown w s n count left = by w.latch.pending refl
    where
      none_left : (left : List Store) → nat_lt 0 (length left) ≡ false → length left ≡ 0
      none_left [] e = refl
      none_left (t ∷ ts) e = (let some : nat_lt 0 (length (t ∷ ts)) ≡ true =
          lt-ltb 0 (length (t ∷ ts)) (omega arith) in absurd (cc))

      by : (h : Option PendingUpdate) → w.latch.pending ≡ h → n ≡ writes_left h
      by None e = count ∙ none_left c.writer.stores_left (hand_shown w s ∙ ap is_some e)
      by (Some h) e = sym (left w.latch h s.writer e)

  -- what the writer says of an update is what the definitions say
  pub says : (u : Update) (why : Option Refusal) (w : Moment K) → RepresentsMoment o c w
      → why_refused o c.writer u ≡ why → refusal_for o (capacity_of c.layout) (limit_of c.layout)
      (is_some w.latch.pending) w.latch.newest_table (at w.latch.words 0) u ≡ why
  says u why w s e =
      let pending : has_pending c.writer ≡ is_some w.latch.pending = hand_shown w s in
      (λ i. refusal_for o (sym s.capacity i) (sym s.limit i) (sym pending i) (s.writer.table i)
      (s.writer.sequence i) u) ∙ e

  pub begins : (u : Update) (left y : ℕ) (wr : WriterView) → why_refused o c.writer u ≡ None
      → left ≡ length wr.stores_left → HasBegun o c.writer u wr → y ≡ counted_up c.events
      → MayDo o c (Begin u) (Begun left) (record c { writer = wr; events = y })
  begins u left y wr accepted count h e =
      inl (λ w s.
      let next = with_latch w (latch_with_update o w.latch u left) in
      let few : left ≤ most_steps (capacity_of c.layout) u = subst (λ n. left ≤ most_steps n u)
      s.capacity (subst (λ j. j ≤ most_steps c.writer.capacity u) (sym count) h.few) in (
        next,
        subst (λ why. IsBegin o (capacity_of c.layout) w u why (Begun left) next)
            (sym (says u None w s accepted))
            (left, subst (λ j. 0 < j) (sym count) h.some, few, refl, refl),
        record {
          capacity = ap (λ (v : WriterView). v.capacity) h.rest ∙ s.capacity;
          limit = ap (λ (v : WriterView). v.limit) h.rest ∙ s.limit;
          words = s.words;
          writer = subst (λ j. RepresentsLatch wr (latch_with_update o w.latch u j)) (sym count)
              (h.pictures w.latch s.writer);
          lookups = s.lookups;
          events = e ∙ ap counted_up s.events;
        },
      ))

  pub refused : (u : Update) (why : Refusal) (y : ℕ) (wr : WriterView) → wr ≡ c.writer
      → (why_refused o c.writer u ≡ Some why)
      ⊎ ((why_refused o c.writer u ≡ None) × (why ≡ OutOfMemory))
      → why ≢ OutOfMemory → y ≡ counted_up c.events → MayDo o c (Begin u) (Refused why)
      (record c { writer = wr; events = y })
  refused u why y wr same err other e =
      subst (λ (v : WriterView).
      MayDo o c (Begin u) (Refused why) (record c { writer = v; events = y })) (sym same)
      (⊎_elim
      (λ right.
      inl (λ w s. (
        with_event w,
        subst (λ why'. IsBegin o (capacity_of c.layout) w u why' (Refused why) (with_event w))
            (sym (says u (Some why) w s right)) (refl, refl),
        counts w y s e,
      )))
      (λ out. absurd (other out.1))
      err)

  pub given_up : (u : Update) (why : Refusal) (wr : WriterView) → wr ≡ c.writer
      → (why_refused o c.writer u ≡ Some why)
      ⊎ ((why_refused o c.writer u ≡ None) × (why ≡ OutOfMemory))
      → why ≡ OutOfMemory → MayDo o c (Begin u) (Refused why) (record c { writer = wr })
  given_up u why wr same err out =
      let free : why_refused o c.writer u ≡ None =
      ⊎_elim
      (λ right. absurd (never_for_memory o c.writer.capacity c.writer.limit (has_pending c.writer)
      c.writer.table c.writer.sequence u (right ∙ ap Some out)))
      (λ rest. rest.0) err in
      inr (
        ap Refused out,
        λ w s. (
          says u None w s free,
          subst (λ (v : WriterView). RepresentsMoment o (record c { writer = v }) w) (sym same) s,
        ),
      )

  pub makes : (store : Store) (y : ℕ) (words : Vec ℕ Global) (wr : WriterView)
      → wr ≡ writer_after_step c.writer store
      → ((l : Latch) → RepresentsLatch c.writer l
      → (h : PendingUpdate) × (l.pending ≡ Some h) × IsWriterStep c.writer.capacity l h store)
      → ((l : Latch) (h : PendingUpdate) → RepresentsLatch c.writer l → l.pending ≡ Some h
      → RepresentsLatch wr (latch_after_step l h store))
      → words.items ≡ words_after c.words.items store → y ≡ counted_up c.events
      → Does o c Write (Wrote store) (record c { words = words; writer = wr; events = y })
  makes store y words wr el may then ew ee = λ w s.
      let h = may w.latch s.writer in
      let next = with_latch w (latch_after_step w.latch h.0 store) in
      let step : IsWriterStep (capacity_of c.layout) w.latch h.0 store =
      subst (λ n. IsWriterStep n w.latch h.0 store) s.capacity h.2 in (
        next,
        subst (λ pending. IsWrite (capacity_of c.layout) w pending (Wrote store) next) (sym h.1)
            (store, step, refl, refl),
        record {
          capacity = ap (λ (v : WriterView). v.capacity) el ∙ s.capacity;
          limit = ap (λ (v : WriterView). v.limit) el ∙ s.limit;
          words = ew ∙ ap (λ m. words_after m store) s.words;
          writer = then w.latch h.0 s.writer h.1;
          lookups = s.lookups;
          events = ee ∙ ap counted_up s.events;
        },
      )

  pub idles : (y : ℕ) → IsAtRest o c → y ≡ counted_up c.events
      → Does o c Write Idle (record c { events = y })
  idles y rests e = λ w s. (
    with_event w,
    subst (λ pending. IsWrite (capacity_of c.layout) w pending Idle (with_event w))
        (sym (rests w s)) (refl, refl),
    counts w y s e,
  )

  -- the readers
  placed : (w : Moment K) (y : ℕ) (ds : BTreeMap ℕ (Option (Lookup O K)))
      (ls : FinMap nat_cmp (PendingLookup K)) → RepresentsMoment o c w
      → y ≡ counted_up c.events → ArePendingLookups o (capacity_of c.layout) (lookup_at ds) ls
      → RepresentsMoment o (record c { lookups = ds; events = y }) (with_lookups w ls)
  placed w y ds ls s e is = record {
    capacity = s.capacity;
    limit = s.limit;
    words = s.words;
    writer = s.writer;
    lookups = is;
    events = e ∙ ap counted_up s.events;
  }

  pub busy : (r y : ℕ) (k : K) → is_some (lookup_at c.lookups r) ≡ true → y ≡ counted_up c.events
      → MayDo o c (Start r k) (Refused ReaderBusy) (record c { events = y })
  busy r y k there e =
      inl (λ w s.
      let l = shown_some o (capacity_of c.layout) (lookup_at c.lookups r) (get w.lookups r) there
      (s.lookups r) in (
        with_event w,
        ap (start_done w r k) l.1,
        counts w y s e,
      ))

  pub starts : (r y : ℕ) (k : K) (new : Lookup O K) (ds : BTreeMap ℕ (Option (Lookup O K)))
      → lookup_at c.lookups r ≡ None
      → IsLookupOf o (capacity_of c.layout) new (new_lookup k y)
      → ((q : ℕ) → lookup_at ds q ≡ cond (is_at (nat_cmp r) q) (Some new) (lookup_at c.lookups q))
      → y ≡ counted_up c.events
      → MayDo o c (Start r k) Started (record c { lookups = ds; events = y })
  starts r y k new ds free is e ey =
      inl (λ w s.
      let none_there : get w.lookups r ≡ None = shown_none o (capacity_of c.layout)
      (lookup_at c.lookups r) (get w.lookups r) free (s.lookups r) in
      let count : y ≡ counted_up w.events = ey ∙ ap counted_up s.events in
      let l : PendingLookup K = new_lookup k (counted_up w.events) in
      let next = with_lookups w (insert w.lookups r l) in (
        next,
        ap (start_done w r k) none_there,
        placed w y ds _ s ey (in_hand_set o (capacity_of c.layout) (lookup_at c.lookups)
            (lookup_at ds) w.lookups r new l s.lookups e
            (subst (λ j. IsLookupOf o (capacity_of c.layout) new (new_lookup k j)) count is)),
      ))

  pub idle : (r y : ℕ) (ds : BTreeMap ℕ (Option (Lookup O K))) → lookup_at c.lookups r ≡ None
      → ((q : ℕ) → lookup_at ds q ≡ lookup_at c.lookups q) → y ≡ counted_up c.events
      → Does o c (Read r) (Refused ReaderIdle) (record c { lookups = ds; events = y })
  idle r y ds free e ey = λ w s.
      let none_there : get w.lookups r ≡ None = shown_none o (capacity_of c.layout)
      (lookup_at c.lookups r) (get w.lookups r) free (s.lookups r) in (
        with_event w,
        ap (read_done o (capacity_of c.layout) w r) none_there,
        placed w y ds w.lookups s ey
            (λ q. subst (λ x. IsPendingLookup o (capacity_of c.layout) x (get w.lookups q))
            (sym (e q)) (s.lookups q)),
      )

  -- a load after which the lookup is pending
  pub stays : (r y : ℕ) (becomes : PendingLookup K → AfterLoad K) (reply : Reply K)
      (lk new : Lookup O K) (ds : BTreeMap ℕ (Option (Lookup O K)))
      (words : List ℕ) → Some lk ≡ lookup_at c.lookups r → words ≡ c.words.items
      → ((l : PendingLookup K) → IsLookupOf o (capacity_of c.layout) lk l
      → (next : PendingLookup K) × IsLookupOf o (capacity_of c.layout) new next
      × ((w : Moment K) → w.latch.words ≡ words
      → after_load o (capacity_of c.layout) w r l ≡ becomes next))
      → ((w : Moment K) (next : PendingLookup K)
      → load_done w r (becomes next) ≡ (reply, with_lookups w (insert w.lookups r next)))
      → ((q : ℕ) → lookup_at ds q ≡ cond (is_at (nat_cmp r) q) (Some new) (lookup_at c.lookups q))
      → y ≡ counted_up c.events
      → Does o c (Read r) reply (record c { lookups = ds; events = y })
  stays r y becomes reply lk new ds words there ew loads leads e ey = λ w s.
      let m = shown o (capacity_of c.layout) (lookup_at c.lookups r) (get w.lookups r) lk there
      (s.lookups r) in
      let g = loads m.0 m.2 in (
        with_lookups w (insert w.lookups r g.0),
        ap (read_done o (capacity_of c.layout) w r) m.1
            ∙ ap (load_done w r) (g.2 w (sym s.words ∙ sym ew)) ∙ leads w g.0,
        placed w y ds _ s ey (in_hand_set o (capacity_of c.layout) (lookup_at c.lookups)
            (lookup_at ds) w.lookups r new g.0 s.lookups e g.1),
      )

  pub returns : (r y : ℕ) (lk : Lookup O K) (x : Returned K) (ds : BTreeMap ℕ (Option (Lookup O K)))
      (words : List ℕ) → Some lk ≡ lookup_at c.lookups r → words ≡ c.words.items
      → ((l : PendingLookup K) → IsLookupOf o (capacity_of c.layout) lk l
      → LoadsTo {O = O} o (capacity_of c.layout) words r y l (ReturnedLoad x))
      → ((q : ℕ) → lookup_at ds q ≡ cond (is_at (nat_cmp r) q) None (lookup_at c.lookups q))
      → y ≡ counted_up c.events
      → Does o c (Read r) (ReturnedReply x) (record c { lookups = ds; events = y })
  returns r y lk x ds words there ew loads e ey = λ w s.
      let m = shown o (capacity_of c.layout) (lookup_at c.lookups r) (get w.lookups r) lk there
      (s.lookups r) in
      let count : y ≡ counted_up w.events = ey ∙ ap counted_up s.events in
      let g = loads m.0 m.2 w (sym s.words ∙ sym ew) (sym count) in
      let next = with_lookups w (remove w.lookups r) in (
        next,
        ap (read_done o (capacity_of c.layout) w r) m.1 ∙ ap (load_done w r) g,
        placed w y ds _ s ey (in_hand_remove o (capacity_of c.layout) (lookup_at c.lookups)
            (lookup_at ds) w.lookups r s.lookups e),
      )

-- nobody has a pending lookup at the opening
pub none_in_hand : {O K : Type 0} (o : Order K) (n : ℕ) (m : BTreeMap ℕ (Option (Lookup O K)))
    → m.entries ≡ [] → ArePendingLookups o n (lookup_at m) empty
none_in_hand {O} {K} o n m e r =
    let no : FinMap nat_cmp (PendingLookup K) = empty in
    let nowhere : tree_get nat_cmp m r ≡ None = rw e refl in
    let free : lookup_at m r ≡ None = ap option_flatten nowhere in
    subst (λ x. IsPendingLookup {O = O} o n x (get no r)) (sym free)
    (subst (IsPendingLookup {O = O} o n None) (sym (get-empty nat_cmp r)) tt)
