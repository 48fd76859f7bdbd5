-- A lookup that the writer leaves alone returns at its first attempt, and each other attempt needs
-- a flip.
use Rattle.latch_steps.proofs.Definitions.{◌≡◌, ◌≢◌, ℕ, ◌+◌, ◌-◌, ◌*◌, ◌^◌, ◌<◌, ◌≤◌, true, false}
use Rattle.latch_steps.proofs.Definitions.{cond, List, [], ◌∷◌, ◌++◌, length, take, Option, Some}
use Rattle.latch_steps.proofs.Definitions.{None, refl, sym, ◌∙◌, ap, subst, arith, length-append}
use Rattle.latch_steps.proofs.Definitions.{append_assoc, ⊎_elim, ◌==◌, get, FinMap, get-empty}
use Rattle.latch_steps.proofs.Definitions.{eqb-true, eqb-false, Item, Update, Refusal, ReaderBusy}
use Rattle.latch_steps.proofs.Definitions.{Event, Begin, Write, Start, Read, Reply, Started, Loaded}
use Rattle.latch_steps.proofs.Definitions.{Refused, Order, IsLawful, IsTable, get-insert_same}
use Rattle.latch_steps.proofs.Definitions.{replay, current_table, at, Nodes, Holds, generation_of}
use Rattle.latch_steps.proofs.Definitions.{stable_copy_of, Reading, Load, attempt, rest_after}
use Rattle.latch_steps.proofs.Definitions.{Stand, PendingUpdate, Latch, PendingLookup, Moment, Done}
use Rattle.latch_steps.proofs.Definitions.{step_done, accepted, history, opening, machine}
use Rattle.latch_steps.proofs.Definitions.{counted_up, with_event, new_lookup, with_value, IsBegin}
use Rattle.latch_steps.proofs.Definitions.{IsWrite, after_load, start_done, load_done, read_done}
use Rattle.latch_steps.proofs.Definitions.{Step, Run, is_step, is_load_of, up_to_next_step}
use Rattle.latch_steps.proofs.Definitions.{replies_to, ReturnsWithin, ReturnsFromStart}
use Rattle.latch_steps.proofs.Definitions.{AreUndisturbed, flips_between, IsPatientReply, IsQuiet}
use Rattle.latch_steps.proofs.Definitions.{take-append-le, gen_within, sequence_after}
use Rattle.latch_steps.proofs.Definitions.{attempt_below, attempt_below_depth, few_deep_any}
use Rattle.latch_steps.proofs.Definitions.{shallow_tree, depth, AreShallow, IsDepth, AreNear}
use Rattle.latch_steps.proofs.Definitions.{AllByRecursion, nat_cmp, words_after, IsStanding}
use Rattle.latch_steps.specs.declared.replies.Reply.TheVariants.{Returned as ReturnedReply}
use Rattle.latch_steps.proofs.LoadLemmas.{IsGoing, each_insert, each_remove, none_loaded, by_load}
use Rattle.latch_steps.proofs.LoadLemmas.{by_sound_load}
use Rattle.latch_steps.proofs.IdleLemmas.{Differs, start_differs, read_reads}
use Rattle.latch_steps.proofs.RunLemmas.{KeepsLatch, read_keeps, start_keeps, sequence_at}
use Rattle.latch_steps.proofs.RunLemmas.{flips_counted}
use Rattle.latch_steps.proofs.SafeRunLemmas.{IsWorld, step_leads, IsRight, IsLeft, all_left}
use Rattle.latch_steps.proofs.SafeRunLemmas.{left_next, moment_there, opening_world}

-- a lookup whose values all stand in this memory
record IsCalm {K : Type 0} (o : Order K) (n : ℕ) (m : List ℕ) (w : Moment K) (r : ℕ) : Type 0 where
  words : w.latch.words ≡ m
  l : PendingLookup K
  in_hand : get w.lookups r ≡ Some l
  first : l.attempts ≡ 1
  stand : Stand m (attempt o n l.key) l.values
  asks : IsGoing o n m l

module _ {K : Type 0} (o : Order K) (law : IsLawful o) (n limit : ℕ) (m : List ℕ)
    (table : List Item) (t : Nodes) (holds : Holds m n (stable_copy_of (at m 0)) table t)
    (is_table : IsTable o table) (fits : length table ≤ n)
    (most : ℕ) (below : (k : K) (v : List ℕ) (word : ℕ) (go : ℕ → Reading) → Stand m (attempt o n k)
    v → rest_after (attempt o n k) v ≡ Some (Load word go) → length v < most) (r : ℕ) where
  -- the same lookup in another world
  kept : (w w' : Moment K) → w'.latch.words ≡ w.latch.words → get w'.lookups r ≡ get w.lookups r
      → (c : IsCalm o n m w r) → (c' : IsCalm o n m w' r) × (length c'.l.values ≡ length c.l.values)
  kept w w' ew eg c = (
    record {
      words = ew ∙ c.words;
      l = c.l;
      in_hand = eg ∙ c.in_hand;
      first = c.first;
      stand = c.stand;
      asks = c.asks;
    },
    refl,
  )

  begin_calm : (w : Moment K) (u : Update) (why : Option Refusal) (reply : Reply K) (w' : Moment K)
      → IsBegin o n w u why reply w' → (c : IsCalm o n m w r)
      → (c' : IsCalm o n m w' r) × (length c'.l.values ≡ length c.l.values)
  begin_calm w u (Some why) reply w' (er, ew) c =
      kept w w' (ap (λ v. v.latch.words) ew) (ap (λ v. get v.lookups r) ew) c
  begin_calm w u None reply w' (left, some, bound, er, ew) c =
      kept w w' (ap (λ v. v.latch.words) ew) (ap (λ v. get v.lookups r) ew) c

  abbrev Recording : ℕ → Reply K × Moment K → Type 0
  Recording count done = (c' : IsCalm o n m done.1 r) × (length c'.l.values ≡ count)

  other_calm : (w : Moment K) (q : ℕ) → r ≢ q → (done : Reply K × Moment K) → Differs q w done.1
      → (c : IsCalm o n m w r) → Recording (length c.l.values) done
  other_calm w q ne done d c = kept w done.1 (ap (λ (l : Latch). l.words) d.latch) (d.others r ne) c

  start_calm : (w : Moment K) (q : ℕ) (k : K) (found : Option (PendingLookup K))
      → get w.lookups q ≡ found → (c : IsCalm o n m w r) → Recording (length c.l.values)
      (start_done w q k found)
  start_calm w q k (Some l) e c = kept w (with_event w) refl refl c
  start_calm w q k None e c =
      let ne : r ≢ q = (λ same. let f : get w.lookups r ≡ None = ap (get w.lookups) same ∙ e in
      let g = c.in_hand in absurd (cc)) in
      other_calm w q ne (start_done w q k None) (start_differs q w k None) c

  -- the reader's own load
  abbrev IsCalmNext : ℕ → Reply K → Moment K → Type 0
  IsCalmNext left (ReturnedReply x) w' = x.attempts ≡ 1
  IsCalmNext left Loaded w' =
      (1 < left) × ((c' : IsCalm o n m w' r) × (length c'.l.values + (left - 1) ≡ most))
  IsCalmNext left _ w' = ⊥

  own_load : (w : Moment K) (left : ℕ) (c : IsCalm o n m w r) → length c.l.values + left ≡ most
      → (let done = read_done o n w r (get w.lookups r) in IsCalmNext left done.0 done.1)
  own_load w left c total =
      subst (λ found. (let done = read_done o n w r found in IsCalmNext left done.0 done.1))
      (sym c.in_hand)
      (by_load o law n m table t holds is_table fits w c.words r c.l c.asks
      (λ x. (let done = load_done w r x in IsCalmNext left done.0 done.1))
      (λ asks push.
      let short = below c.l.key _ asks.word asks.go (push c.stand) asks.left in
      let one = length-append c.l.values (at m c.asks.word ∷ []) in (
        omega arith,
        (
          record {
            words = c.words;
            l = with_value c.l (at m c.asks.word);
            in_hand = get-insert_same w.lookups r _;
            first = c.first;
            stand = push c.stand;
            asks = asks;
          },
          omega arith,
        ),
      ))
      (λ moved. absurd (moved c.stand))
      (λ st. c.first))

  -- a step that is neither a load of this reader nor a step of the writer says nothing of the
  -- lookup
  passes : (left : ℕ) (d : Done K) (run : List (Done K)) → is_step d.reply ≡ false
      → is_load_of r d.event ≡ false → ReturnsWithin left (replies_to r (up_to_next_step run))
      → ReturnsWithin left (replies_to r (up_to_next_step (d ∷ run)))
  passes left d run no_step no_load h =
      subst (λ b. ReturnsWithin left (replies_to r (cond b [] (d ∷ up_to_next_step run))))
      (sym no_step)
      (subst (λ b. ReturnsWithin left (cond b (d.reply ∷ replies_to r (up_to_next_step run))
      (replies_to r (up_to_next_step run)))) (sym no_load) h)

  loads : (left : ℕ) (d : Done K) (run : List (Done K)) → is_load_of r d.event ≡ true
      → IsCalmNext left d.reply d.after
      → ((c : IsCalm o n m d.after r) → length c.l.values + (left - 1) ≡ most
      → ReturnsWithin (left - 1) (replies_to r (up_to_next_step run)))
      → ReturnsWithin left (replies_to r (up_to_next_step (d ∷ run)))
  loads left d run is_load next go = by d.reply next
    where
      by : (reply : Reply K) → IsCalmNext left reply d.after
          → ReturnsWithin left
          (replies_to r (up_to_next_step (step_done d.event reply d.after ∷ run)))
      by (ReturnedReply x) h = subst
          (λ b. ReturnsWithin left (cond b (ReturnedReply x ∷ replies_to r (up_to_next_step run))
          (replies_to r (up_to_next_step run)))) (sym is_load) h
      by Loaded h =
          subst (λ b. ReturnsWithin left (cond b (Loaded ∷ replies_to r (up_to_next_step run))
          (replies_to r (up_to_next_step run)))) (sym is_load) (h.0, go h.1.0 h.1.1)
      by _ h = absurd h

  begin_passes : (w : Moment K) (u : Update) (why : Option Refusal) (reply : Reply K)
      (w' : Moment K) → IsBegin o n w u why reply w' → is_step reply ≡ false
  begin_passes w u (Some why) reply w' (er, ew) = ap is_step er
  begin_passes w u None reply w' (left, some, bound, er, ew) = ap is_step er

  undisturbed : (run : List (Done K)) (w : Moment K) (left : ℕ) (c : IsCalm o n m w r)
      → length c.l.values + left ≡ most → Run (machine o n limit) w run
      → ReturnsWithin left (replies_to r (up_to_next_step run))
  undisturbed [] w left c total steps = tt
  undisturbed (d ∷ run) w left c total steps =
      by d.event d.reply steps.0 (λ left' c' e. undisturbed run d.after left' c' e steps.1)
    where
      by : (e : Event K) (reply : Reply K) → Step (machine o n limit) w e reply d.after
          → ((left' : ℕ) (c' : IsCalm o n m d.after r) → length c'.l.values + left' ≡ most
          → ReturnsWithin left' (replies_to r (up_to_next_step run)))
          → ReturnsWithin left (replies_to r (up_to_next_step (step_done e reply d.after ∷ run)))
      by (Begin u) reply step go =
          let k = begin_calm w u _ reply d.after step c in
          passes left (step_done (Begin u) reply d.after) run
          (begin_passes w u _ reply d.after step) refl (go left k.0 (omega (arith, k.1)))
      by (Start q k) reply step go =
          let k' = subst (Recording (length c.l.values)) step (start_calm w q k _ refl c) in
          passes left (step_done (Start q k) reply d.after) run
          (subst (KeepsLatch w) step (start_keeps w q k (get w.lookups q))).1 refl
          (go left k'.0 (omega (arith, k'.1)))
      by Write reply step go = writes w.latch.pending step
        where
          writes : (pending : Option PendingUpdate) → IsWrite n w pending reply d.after
              → ReturnsWithin left
              (replies_to r (up_to_next_step (step_done Write reply d.after ∷ run)))
          writes None (er, ew) =
              let k =
              kept w d.after (ap (λ v. v.latch.words) ew) (ap (λ v. get v.lookups r) ew) c in
              passes left (step_done Write reply d.after) run (ap is_step er) refl
              (go left k.0 (omega (arith, k.1)))
          writes (Some h) (s, may, er, ew) = subst (λ x. ReturnsWithin left
              (replies_to r (up_to_next_step (step_done Write x d.after ∷ run)))) (sym er) tt
      by (Read q) reply step go =
          elim (q == r) as (λ b. (q == r) ≡ b → ReturnsWithin left
          (replies_to r (up_to_next_step (step_done (Read q) reply d.after ∷ run)))) [
            | true ↦ λ e.
                let own : read_done o n w r (get w.lookups r) ≡ (reply, d.after) =
                subst (λ p. read_done o n w p (get w.lookups p) ≡ (reply, d.after))
                (eqb-true q r e) step in
                loads left (step_done (Read q) reply d.after) run e
                (subst (λ done. IsCalmNext left done.0 done.1) own (own_load w left c total))
                (go (left - 1))
            | false ↦ λ e.
                let k = subst (Recording (length c.l.values)) step (other_calm w q
                (λ same. eqb-false q r e (sym same)) (read_done o n w q (get w.lookups q))
                (read_reads q o n w (get w.lookups q)).differs c) in
                passes left (step_done (Read q) reply d.after) run
                (subst (KeepsLatch w) step (read_keeps o n w q (get w.lookups q))).1 e
                (go left k.0 (omega (arith, k.1)))
          ] refl

-- from a start on
module _ {K : Type 0} (o : Order K) (law : IsLawful o) (n limit start : ℕ)
    (whole : List Update) where
  -- no attempt whose values stand in the words of this moment has so many before its last load
  abbrev Below : Moment K → ℕ → Type 0
  Below w most =
      (k : K) (v : List ℕ) (word : ℕ) (go : ℕ → Reading) → Stand w.latch.words (attempt o n k) v
      → rest_after (attempt o n k) v ≡ Some (Load word go) → length v < most

  from_start : (run : List (Done K)) (us : List Update) (c : ℕ) (w w' : Moment K) (e : Event K)
      (reply : Reply K) (most : ℕ) → Below w' most → 0 < most → IsWorld o n start us c w'
      → Step (machine o n limit) w e reply w' → Run (machine o n limit) w' run
      → ReturnsFromStart most e reply run
  from_start run us c w w' (Start r k) Started most below some ok step steps =
      by (get w.lookups r) step
    where
      by : (found : Option (PendingLookup K)) → start_done w r k found ≡ (Started, w')
          → ReturnsWithin most (replies_to r (up_to_next_step run))
      by (Some l) e = (let f : Refused ReaderBusy ≡ Started = ap (λ done. done.0) e in absurd (cc))
      by None e =
          let m = w'.latch.words in
          let tables = ok.latch.tables (generation_of (at m 0) - generation_of start) in
          let calm : IsCalm o n m w' r =
          record {
            words = refl;
            l = new_lookup k (counted_up w.events);
            in_hand = ap (λ done. get done.1.lookups r) (sym e) ∙ get-insert_same w.lookups r _;
            first = refl;
            stand = tt;
            asks = none_loaded o n m _ refl;
          } in
          undisturbed o law n limit m (current_table o start us m) ok.latch.current.0
          ok.latch.current.1 tables.0 tables.1 most below r run w' most calm (omega arith) steps
  from_start run us c w w' _ _ most below some ok step steps = tt

  -- the current table is that of the updates so far
  still_current : (us rest : List Update) (c : ℕ) (w : Moment K) → whole ≡ us ++ rest
      → IsWorld o n start us c w
      → current_table o start us w.latch.words ≡ current_table o start whole w.latch.words
  still_current us rest c w split ok =
      let g = generation_of (at w.latch.words 0) - generation_of start in
      sym (ap (replay o [])
      (ap (take g) split ∙ take-append-le g us rest (gen_within o n start us w.latch ok.latch)))

  -- both at once
  both_runs : (run : List (Done K)) (us : List Update) (c : ℕ) (w : Moment K)
      → IsWorld o n start us c w → c + length run < 2 ^ 64 → Run (machine o n limit) w run
      → whole ≡ us ++ history run
      → AreUndisturbed o start whole run × (AreShallow n run → AreNear o start whole run)
  both_runs [] us c w ok room steps e = (tt, λ low. tt)
  both_runs (d ∷ run) us c w ok room steps e =
      let leads =
      step_leads o law n limit start us c w ok (omega arith) d.event d.reply d.after steps.0 in
      let us' = us ++ accepted d.event d.reply in
      let e' : whole ≡ us' ++ history run =
      e ∙ sym (append_assoc us (accepted d.event d.reply) (history run)) in
      let latch = leads.world.latch in
      let m = d.after.latch.words in
      let table = current_table o start us' m in
      let t = latch.current.0 in
      let holds = latch.current.1 in
      let ts = latch.tables (generation_of (at m 0) - generation_of start) in
      let same = still_current us' (history run) (c + 1) d.after e' leads.world in
      let rest = both_runs run us' (c + 1) d.after leads.world (omega arith) steps.1 e' in (
        (
          subst (λ xs. ReturnsFromStart (4 * length xs + 3) d.event d.reply run) same
              (from_start run us' (c + 1) w d.after d.event d.reply (4 * length table + 3)
              (λ k v word go st left.
              attempt_below o law m n k table t holds ts.0 ts.1 v word go st left) (omega arith)
              leads.world steps.0 steps.1),
          rest.0,
        ),
        λ low. (
          (
            depth t,
            subst (λ xs. IsDepth (length xs) (depth t)) same
                (few_deep_any m n table t holds (shallow_tree n m table t holds low.0)),
            from_start run us' (c + 1) w d.after d.event d.reply (4 * depth t + 3)
                (λ k v word go st left.
                attempt_below_depth o law m n k table t holds ts.0 ts.1 v word go st left)
                (omega arith) leads.world steps.0 steps.1,
          ),
          rest.1 low.1,
        ),
      )

  pub quiet_run : (run : List (Done K)) (us : List Update) (c : ℕ) (w : Moment K)
      → IsWorld o n start us c w → c + length run < 2 ^ 64 → Run (machine o n limit) w run
      → whole ≡ us ++ history run → AreUndisturbed o start whole run
  quiet_run run us c w ok room steps e = (both_runs run us c w ok room steps e).0

  -- and near, where each of its moments has its stable copy in a red-black tree
  pub near_run : (run : List (Done K)) (us : List Update) (c : ℕ) (w : Moment K)
      → IsWorld o n start us c w → c + length run < 2 ^ 64 → Run (machine o n limit) w run
      → AreShallow n run
      → whole ≡ us ++ history run → AreNear o start whole run
  near_run run us c w ok room steps low e = (both_runs run us c w ok room steps e).1 low

-- the attempts so far, against the sequence at the start and at this attempt's first load
abbrev Tried : ℕ → ℕ → ℕ → List ℕ → Type 0
Tried from seq attempts [] = (from ≤ seq) × (attempts ≤ 1 + (seq - from))
Tried from seq attempts (s ∷ v) = (from ≤ s) × (attempts ≤ 1 + (s - from))

abbrev IsTried : {K : Type 0} → (ℕ → ℕ) → ℕ → PendingLookup K → Type 0
IsTried seqs seq l = Tried (seqs l.first) seq l.attempts l.values

abbrev AreTried : {K : Type 0} → (ℕ → ℕ) → ℕ → FinMap nat_cmp (PendingLookup K) → Type 0
AreTried {K} seqs seq ls = (q : ℕ) (l : PendingLookup K) → get ls q ≡ Some l → IsTried seqs seq l

tried_later : (from seq seq' attempts : ℕ) (v : List ℕ) → seq ≤ seq' → Tried from seq attempts v
    → Tried from seq' attempts v
tried_later from seq seq' attempts [] le h =
    (let a = h.0 in omega arith, let a = h.0 in let b = h.1 in omega arith)
tried_later from seq seq' attempts (s ∷ v) le h = h

tried_push : (from seq attempts : ℕ) (v : List ℕ) (x : ℕ) → (v ≡ [] → x ≡ seq)
    → Tried from seq attempts v
    → Tried from seq attempts (v ++ x ∷ [])
tried_push from seq attempts [] x is h = let e = is refl in
    (let a = h.0 in omega arith, let a = h.0 in let b = h.1 in omega arith)
tried_push from seq attempts (s ∷ v) x is h = h

abbrev IsPatientNow : {K : Type 0} → (ℕ → ℕ) → ℕ → Reply K → Type 0
IsPatientNow seqs seq (ReturnedReply x) = x.attempts ≤ 1 + (seq - seqs x.first)
IsPatientNow seqs seq _ = Unit {0}

record StaysTried {K : Type 0} (seqs : ℕ → ℕ) (w' : Moment K) (reply : Reply K) : Type 0 where
  lookups : AreTried seqs (at w'.latch.words 0) w'.lookups
  now : IsPatientNow seqs (at w'.latch.words 0) reply

module _ {K : Type 0} (o : Order K) (law : IsLawful o) (n limit start : ℕ) (us : List Update)
    (c : ℕ) (seqs : ℕ → ℕ) (w : Moment K) (ok : IsWorld o n start us c w)
    (tried : AreTried seqs (at w.latch.words 0) w.lookups) where
  -- a reply and the moment after it
  abbrev GoesTo : Reply K × Moment K → Type 0
  GoesTo done = StaysTried seqs done.1 done.0

  load_goes : (r : ℕ) (l : PendingLookup K) → get w.lookups r ≡ Some l
      → GoesTo (load_done w r (after_load o n w r l))
  load_goes r l e =
      let m = w.latch.words in
      let is = (ok.lookups r l e).going in
      by_sound_load o law n start us w ok.latch r l is (λ x. GoesTo (load_done w r x))
      (λ going. record {
        lookups = each_insert (IsTried seqs (at m 0)) w.lookups r _ tried (tried_push (seqs l.first)
            (at m 0) l.attempts l.values (at m is.word) (first_number is) (tried r l e));
        now = tt;
      })
      (λ moved. record {
        lookups = each_insert (IsTried seqs (at m 0)) w.lookups r _ tried
            (once_more l.values is.standing moved (tried r l e));
        now = tt;
      })
      (record {
        lookups = each_remove (IsTried seqs (at m 0)) w.lookups r tried;
        now = done l.values is.standing (tried r l e);
      })
    where
      first_number : (is : IsGoing o n w.latch.words l) → l.values ≡ []
          → at w.latch.words is.word ≡ at w.latch.words 0
      first_number is none_yet =
          let f : rest_after (attempt o n l.key) [] ≡ Some (Load is.word is.go) =
          subst (λ v. rest_after (attempt o n l.key) v ≡ Some (Load is.word is.go)) none_yet
          is.left in
          let z : is.word ≡ 0 = cc in
          ap (at w.latch.words) z

      once_more : (v : List ℕ) → IsStanding w.latch.words (attempt o n l.key) v
          → (Stand w.latch.words (attempt o n l.key) v → ⊥) → Tried (seqs l.first)
          (at w.latch.words 0) l.attempts v → Tried (seqs l.first) (at w.latch.words 0)
          (counted_up l.attempts) []
      once_more [] st moved h = absurd (moved tt)
      once_more (s ∷ v) st moved h =
          let ne : s ≢ at w.latch.words 0 = λ e. moved (st.1 e) in
          let le = st.0 in
          let a = h.0 in
          let b = h.1 in
          (omega arith, omega arith)

      done : (v : List ℕ) → IsStanding w.latch.words (attempt o n l.key) v → Tried (seqs l.first)
          (at w.latch.words 0) l.attempts v → l.attempts ≤ 1 + (at w.latch.words 0 - seqs l.first)
      done [] st h = h.1
      done (s ∷ v) st h = let le = st.0 in let a = h.0 in let b = h.1 in omega arith

  read_goes : (r : ℕ) (found : Option (PendingLookup K)) → get w.lookups r ≡ found
      → GoesTo (read_done o n w r found)
  read_goes r None e = record { lookups = tried; now = tt }
  read_goes r (Some l) e = load_goes r l e

  start_goes : (r : ℕ) (k : K) (found : Option (PendingLookup K))
      → seqs (counted_up w.events) ≡ at w.latch.words 0 → GoesTo (start_done w r k found)
  start_goes r k (Some l) there = record { lookups = tried; now = tt }
  start_goes r k None there = record {
    lookups = each_insert (IsTried seqs (at w.latch.words 0)) w.lookups r _ tried
        (omega arith, omega arith);
    now = tt;
  }

  write_goes : (pending : Option PendingUpdate) → (reply : Reply K) (w' : Moment K)
      → IsWrite n w pending reply w'
      → StaysTried seqs w' reply
  write_goes None reply w' (er, ew) =
      subst GoesTo (λ i. (sym er i, sym ew i)) (record { lookups = tried; now = tt })
  write_goes (Some h) reply w' (s, may, er, ew) =
      let le : at w.latch.words 0 ≤ at (words_after w.latch.words s) 0 =
      ⊎_elim (λ (hid, e). omega arith) (λ e. omega arith)
      (sequence_after n w.latch h s ok.latch.sized may) in
      subst GoesTo (λ i. (sym er i, sym ew i))
      (record {
        lookups = λ q l e. tried_later (seqs l.first) (at w.latch.words 0)
            (at (words_after w.latch.words s) 0) l.attempts l.values le (tried q l e);
        now = tt;
      })

  begin_goes : (u : Update) (why : Option Refusal) (reply : Reply K) (w' : Moment K)
      → IsBegin o n w u why reply w' → StaysTried seqs w' reply
  begin_goes u (Some why) reply w' (er, ew) =
      subst GoesTo (λ i. (sym er i, sym ew i)) (record { lookups = tried; now = tt })
  begin_goes u None reply w' (left, some, bound, er, ew) =
      subst GoesTo (λ i. (sym er i, sym ew i)) (record { lookups = tried; now = tt })

  step_goes : (e : Event K) (reply : Reply K) (w' : Moment K)
      → seqs (counted_up w.events) ≡ at w'.latch.words 0 → Step (machine o n limit) w e reply w'
      → StaysTried seqs w' reply
  step_goes (Begin u) reply w' there s = begin_goes u _ reply w' s
  step_goes Write reply w' there s = write_goes w.latch.pending reply w' s
  step_goes (Start r k) reply w' there s =
      let keeps = subst (KeepsLatch w) s (start_keeps w r k (get w.lookups r)) in
      subst GoesTo s
      (start_goes r k (get w.lookups r) (there ∙ ap (λ (l : Latch). at l.words 0) keeps.0))
  step_goes (Read r) reply w' there s = subst GoesTo s (read_goes r (get w.lookups r) refl)

patient_reply : {K : Type 0} (o : Order K) (start : ℕ) (us : List Update) (w' w0 : Moment K)
    (all : List (Done K)) (seq c : ℕ) (r : Reply K) → sequence_at w0 all c ≡ seq
    → ((i : ℕ) → i ≤ c → sequence_at w0 all c ≡ sequence_at w0 all i + flips_between all i c)
    → IsRight o start us c w' r → IsPatientNow (sequence_at w0 all) seq r → IsPatientReply all r
patient_reply o start us w' w0 all seq c (ReturnedReply x) e counts right h =
    let added = counts x.first right.first in
    let few : x.attempts ≤ 1 + flips_between all x.first c = omega arith in
    subst (λ j. x.attempts ≤ 1 + flips_between all x.first j) (sym right.last) few
patient_reply o start us w' w0 all seq c _ e counts right h = tt

abbrev Counts : {K : Type 0} → Moment K → List (Done K) → Type 0
Counts w0 all = (i j : ℕ) → i ≤ j → j ≤ length all
    → sequence_at w0 all j ≡ sequence_at w0 all i + flips_between all i j

patient_run : {K : Type 0} (o : Order K) → IsLawful o → (n limit start : ℕ) (w0 : Moment K)
    (all : List (Done K)) → Counts w0 all → (run : List (Done K)) (us : List Update) (c : ℕ)
    (w : Moment K) → IsLeft w0 all c w run → IsWorld o n start us c w
    → AreTried (sequence_at w0 all) (at w.latch.words 0) w.lookups → c + length run < 2 ^ 64
    → Run (machine o n limit) w run
    → AllByRecursion (λ (d : Done K). IsPatientReply all d.reply) run
patient_run o law n limit start w0 all counts [] us c w left ok tried room steps = tt
patient_run o law n limit start w0 all counts (d ∷ run) us c w left ok tried room steps =
    let one : counted_up c ≡ c + 1 = omega arith in
    let leads = step_leads o law n limit start us c w ok one d.event d.reply d.after steps.0 in
    let us' = us ++ accepted d.event d.reply in
    let left' = left_next w0 all c w d run left in
    let there : sequence_at w0 all (c + 1) ≡ at d.after.latch.words 0 =
    ap (λ (v : Moment _). at v.latch.words 0) (moment_there w0 all (c + 1) d.after run left') in
    let count = left'.count in
    let g = step_goes o law n limit start us c (sequence_at w0 all) w ok tried d.event d.reply
    d.after (ap (sequence_at w0 all) (ap counted_up ok.events ∙ one) ∙ there) steps.0 in (
      patient_reply o start us' d.after w0 all (at d.after.latch.words 0) (c + 1) d.reply there
          (λ i le. counts i (c + 1) le (omega arith)) leads.right g.now,
      patient_run o law n limit start w0 all counts run us' (c + 1) d.after left' leads.world
          g.lookups (omega arith) steps.1,
    )

-- every run from the opening is quiet
pub quiet : {K : Type 0} (o : Order K) → IsLawful o → (n limit start : ℕ) → stable_copy_of start ≡ 0
    → (run : List (Done K)) → length run < 2 ^ 64 → Run (machine o n limit) (opening n start) run
    → IsQuiet o start run
quiet {K = K} o law n limit start even run room steps =
    let w0 : Moment K = opening n start in
    let ok = opening_world o n start even in
    let counts : Counts w0 run = flips_counted o law n limit start [] w0 run ok.latch steps in
    record {
      undisturbed =
          quiet_run o law n limit start (history run) run [] 0 w0 ok (omega arith) steps refl;
      patient = patient_run o law n limit start w0 run counts run [] 0 w0 (all_left w0 run) ok
          (λ q l e. (let none_yet : get w0.lookups q ≡ None = get-empty nat_cmp q in absurd (cc)))
          (omega arith) steps;
    }

-- and near, where the writer keeps its trees red-black
pub near : {K : Type 0} (o : Order K) → IsLawful o → (n limit start : ℕ) → stable_copy_of start ≡ 0
    → (run : List (Done K)) → length run < 2 ^ 64 → Run (machine o n limit) (opening n start) run
    → AreShallow n run → AreNear o start (history run) run
near o law n limit start even run room steps low =
    near_run o law n limit start (history run) run [] 0 (opening n start)
    (opening_world o n start even) (omega arith) steps low refl
