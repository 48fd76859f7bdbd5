-- Reports of the events of a run, and the commands that a world obeys so, with loads of a lookup
-- that is held apart.
use Rattle.latch_steps.proofs.Definitions.{◌≡◌, ℕ, ◌+◌, ◌<◌, Bool, true, false, cond, List, [], ◌∷◌}
use Rattle.latch_steps.proofs.Definitions.{◌++◌, length, Option, Some, None, Result, Ok, Err, refl}
use Rattle.latch_steps.proofs.Definitions.{sym, ◌∙◌, ap, subst, arith, length-append, ◌≢◌, OnOk}
use Rattle.latch_steps.proofs.Definitions.{get, insert, remove, Refusal, Order, capacity_of}
use Rattle.latch_steps.proofs.Definitions.{limit_of, PendingUpdate, Latch, IsShallow}
use Rattle.latch_steps.proofs.Definitions.{RepresentsLatch, Command, Event, Write, Read, NextLoad}
use Rattle.latch_steps.proofs.Definitions.{Reply, Outcome, World, Repeats, ends, event_of, most_of}
use Rattle.latch_steps.proofs.Definitions.{reads_within, AreShallow, AreReported, IsLoadBy}
use Rattle.latch_steps.proofs.Definitions.{IsReportedRun, IsWriting, Obeys, ObeysFromAny, ObeysOnce}
use Rattle.latch_steps.proofs.Definitions.{ReportsEvent, outcome_of, ChangesOneLookup, LoadsFrom}
use Rattle.latch_steps.proofs.Definitions.{LoadsOn, lookup_at, IsPendingLookup, IsLookupOf, LoadsTo}
use Rattle.latch_steps.proofs.Definitions.{LoadsNextFrom, next_load, Done, Moment, last_of}
use Rattle.latch_steps.proofs.Definitions.{step_done, PendingLookup, AfterLoad, IsWrite, Run}
use Rattle.latch_steps.proofs.Definitions.{machine_of, machine, counted_up, with_lookups}
use Rattle.latch_steps.proofs.Definitions.{after_load, load_done, read_done, HasEvents, HasSequence}
use Rattle.latch_steps.proofs.Definitions.{RepresentsMoment, layout_in, IsWorldStep}
use Rattle.latch_steps.proofs.Definitions.{is_refused_for_memory, nat_cmp, option_map, BTreeMap}
use Rattle.latch_steps.proofs.Definitions.{is_at, get-insert_other, get-insert_same}
use Rattle.latch_steps.proofs.Definitions.{get-remove_other, get-remove_same, at, Lookup}
use Rattle.latch_steps.proofs.WorldLemmas.{shown, in_hand_at}
use Rattle.latch_steps.proofs.RunLemmas.{IsUnended, does, last_append, repeats_ended, repeats_full}
use Rattle.latch_steps.proofs.RunLemmas.{run_append, shallow_append, shows_shallow, unended_push}
use Rattle.latch_steps.proofs.RunLemmas.{reads_shallow}
use Rattle.latch_steps.specs.declared.commands.Command.TheVariants.{Read as ReadCommand}
use Rattle.latch_steps.specs.declared.lookups.LoadOutcome.TheVariants.{Returned as ReturnedLoad}
use Rattle.latch_steps.specs.declared.lookups.LookupProgress.{LookupProgress}
use Rattle.latch_steps.specs.declared.replies.Returned.{Returned}
use Rattle.latch_steps.specs.declared.replies.Reply.TheVariants.{Returned as ReturnedReply}

module _ {K T : Type 0} (o : Order K) (reports : T → Event K → Outcome K → T → Type 0) where
  pub reported_append : (n : ℕ) (w : Moment K) (run next : List (Done K)) (a b c : T)
      → AreReported o n reports w run a b
      → AreReported o n reports (last_of w run) next b c
      → AreReported o n reports w (run ++ next) a c
  reported_append n w [] next a b c h k = subst (λ x. AreReported o n reports w next x c) h k
  reported_append n w (d ∷ run) next a b c h k =
      (h.0, h.1, reported_append n d.after run next h.0 b c h.2 k)

module _ {O K T : Type 0} {o : Order K} {reports : T → Event K → Outcome K → T → Type 0} where
  pub none_reported : {c : World O K} {a : T} {w : Moment K} → RepresentsMoment o c w
      → IsReportedRun o reports c c a a w []
  none_reported s =
      record { layout = refl; steps = tt; shows = s; shallow = tt; reported = refl }

  pub runs_reported : {old mid new : World O K} {a b c : T} {w : Moment K}
      {run next : List (Done K)} → IsReportedRun o reports old mid a b w run
      → IsReportedRun o reports mid new b c (last_of w run) next
      → IsReportedRun o reports old new a c w (run ++ next)
  runs_reported {old = old} {new = new} {a = a} {b = b} {c = c} {w = w} {run = run} {next = next}
      x y =
      let n = capacity_of (layout_in old) in
      record {
        layout = y.layout ∙ x.layout;
        steps = run_append o n (limit_of (layout_in old)) w run next x.steps
            (subst (λ l. Run (machine_of o l) (last_of w run) next) x.layout y.steps);
        shows = subst (RepresentsMoment o new) (sym (last_append w run next)) y.shows;
        shallow = shallow_append n run next x.shallow
            (subst (λ l. AreShallow (capacity_of l) next) x.layout y.shallow);
        reported = reported_append o reports n w run next a b c x.reported (subst (λ l.
            AreReported o (capacity_of l) reports (last_of w run) next b c) x.layout y.reported);
      }

  -- one event, by what its report is given
  pub event_reported : {old new : World O K} {e : Event K} {r : Reply K}
      {load : Option (NextLoad K)} {number sequence : ℕ} {a b : T}
      → IsWorldStep o old e r new → is_refused_for_memory r ≡ false → layout_in new ≡ layout_in old
      → IsLoadBy o old e load
      → HasEvents o new number → HasSequence o new sequence
      → reports a e (record { number = number; load = load; reply = r; sequence = sequence }) b
      → ReportsEvent o reports e old new a b r
  event_reported {old = old} {new = new} {e = e} {r = r} {load = load} {number = number}
      {sequence = sequence} {a = a} {b = b} steps stays lay loads events reads told w s =
      let d = does o old new e r steps stays w s in
      let n = capacity_of (layout_in old) in
      let low =
      subst (λ l. IsShallow (capacity_of l) d.0.latch.words) lay (shows_shallow new d.0 d.2) in
      let given : Outcome K =
      record { number = number; load = load; reply = r; sequence = sequence } in
      let same : given ≡ outcome_of o n w (step_done e r d.0) = (λ i.
      record {
        number = events d.0 d.2 i;
        load = loads w s i;
        reply = r;
        sequence = reads d.0 d.2 i;
      }) in (
        d.0,
        record {
          layout = lay;
          steps = (d.1, tt);
          shows = d.2;
          shallow = (low, tt);
          reported = (b, subst (λ x. reports a e x b) same told, refl);
        },
      )

-- a command that asks for its event once
pub once : {K : Type 0} (c : Command K) (e : Event K) (r : Reply K) (w : Moment K) → e ≡ event_of c
    → Repeats c 1 (step_done e r w ∷ [])
once c e r w is = (omega arith, is, either (ends c r w))
  where
    either : (b : Bool) → let none : ℕ = 0 in cond b none none ≡ none
    either true = refl
    either false = refl

pub obeyed_once : {O K T A : Type 0} (o : Order K) (reports : T → Event K → Outcome K → T → Type 0)
    (result : Result A Refusal) (old new : World O K) (a b : T) (e : Event K) (c d : Command K)
    → c ≡ d → e ≡ event_of d
    → ((w : Moment K) → RepresentsMoment o old w → most_of w d ≡ 1)
    → OnOk result (ObeysOnce o reports e old new a b)
    → OnOk result (ObeysFromAny o reports c old new a b)
obeyed_once o reports (Ok x) old new a b e c d same is count obeys =
    λ w s. subst (λ y. Obeys o reports y old new a b w (most_of w y)) (sym same)
    (subst (Obeys o reports d old new a b w) (sym (count w s)) (obeys d is w s))
obeyed_once o reports (Err why) old new a b e c d same is count obeys = tt

-- a store takes no memory
pub write_stays : {K : Type 0} (n : ℕ) (w next : Moment K) (pending : Option PendingUpdate)
    (r : Reply K) → IsWrite n w pending r next → is_refused_for_memory r ≡ false
write_stays n w next None r done = ap is_refused_for_memory done.0
write_stays n w next (Some h) r done = ap is_refused_for_memory done.2

-- steps of the writer so far, none of which ends its command
pub record Writing {O K T : Type 0} (o : Order K) (reports : T → Event K → Outcome K → T → Type 0)
    (c : Command K) (old now : World O K) (a b : T) (turn : ℕ) (w : Moment K) : Type 0 where
  pub run : List (Done K)
  pub reported : IsReportedRun o reports old now a b w run
  pub unended : IsUnended c run
  pub turns : length run ≡ turn

module _ {O K T : Type 0} {o : Order K} {reports : T → Event K → Outcome K → T → Type 0}
    {c : Command K} {old : World O K} {a : T} where
  pub writing_all : {now : World O K} {b : T} {turn most : ℕ} {w : Moment K}
      → Writing o reports c old now a b turn w → turn ≡ most → Obeys o reports c old now a b w most
  writing_all {most = most} h e =
      (h.run, h.reported, repeats_full c h.run most h.unended (h.turns ∙ e))

  -- one step more, and whether it ends them
  module _ {now new : World O K} {b b' : T} {r : Reply K} {whether : Bool} {turn : ℕ} {w : Moment K}
      (h : Writing o reports c old now a b turn w) (steps : IsWorldStep o now Write r new)
      (told : is_refused_for_memory r ≡ false → ReportsEvent o reports Write now new b b' r)
      (same : Write ≡ event_of c)
      (tests : (v : Moment K) → RepresentsMoment o new v → whether ≡ ends c r v) where
    one : (next : Moment K)
        × IsReportedRun o reports old new a b' w (h.run ++ step_done Write r next ∷ [])
    one =
        let v = last_of w h.run in
        let done = steps v h.reported.shows in
        let stays = write_stays (capacity_of (layout_in now)) v done.0 v.latch.pending r done.1 in
        let d = told stays v h.reported.shows in (
          d.0,
          runs_reported h.reported d.1,
        )

    tested : whether ≡ ends c r one.0
    tested = tests one.0 (subst (RepresentsMoment o new)
        (last_append w h.run (step_done Write r one.0 ∷ [])) one.1.shows)

    pub writing_more : whether ≡ false → Writing o reports c old new a b' (turn + 1) w
    writing_more fails =
        record {
          run = h.run ++ step_done Write r one.0 ∷ [];
          reported = one.1;
          unended =
              unended_push c h.run (step_done Write r one.0) h.unended same (sym tested ∙ fails);
          turns = length-append h.run (step_done Write r one.0 ∷ []) ∙ ap (λ n. n + 1) h.turns;
        }

    pub writing_last : (most : ℕ) → turn < most → whether ≡ true
        → Obeys o reports c old new a b' w most
    writing_last most lt holds = (
      h.run ++ step_done Write r one.0 ∷ [],
      one.1,
      repeats_ended c h.run most (step_done Write r one.0) h.unended (let t = h.turns in
          omega arith) same (sym tested ∙ holds),
    )

-- the writer's steps, as this command asks for them
pub obeyed_writing : {O K T : Type 0} {o : Order K} {reports : T → Event K → Outcome K → T → Type 0}
    {old new : World O K} {a b : T} (to_flip : Bool) (most : ℕ) {c d : Command K} → c ≡ d
    → IsWriting to_flip d
    → ((w : Moment K) → RepresentsMoment o old w → most ≡ most_of w d)
    → ((x : Command K) → IsWriting to_flip x → (w : Moment K) → RepresentsMoment o old w
    → Obeys o reports x old new a b w most) → ObeysFromAny o reports c old new a b
obeyed_writing {o = o} {reports = reports} {old = old} {new = new} {a = a} {b = b} to_flip most
    {d = d} same is count obeys w s =
    subst (λ y. Obeys o reports y old new a b w (most_of w y)) (sym same)
    (subst (Obeys o reports d old new a b w) (count w s) (obeys d is w s))

-- loads so far, none of which returned
pub record Loading {O K T : Type 0} (o : Order K) (n limit : ℕ)
    (reports : T → Event K → Outcome K → T → Type 0) (w : Moment K) (r most : ℕ) (a : T) (turn : ℕ)
    (c : Lookup O K) (count : ℕ) (b : T) : Type 0 where
  pub run : List (Done K)
  pub steps : Run (machine o n limit) w run
  pub unended : IsUnended (ReadCommand r most) run
  pub turns : length run ≡ turn
  pub reported : AreReported o n reports w run a b
  pub holding : ChangesOneLookup o n w (last_of w run) r (Some c) count

module _ {O K T : Type 0} {o : Order K} {n limit : ℕ}
    {reports : T → Event K → Outcome K → T → Type 0} {w : Moment K} {r most : ℕ} {a : T} where
  -- the next load, by the reply and the moment that it leads to
  module _ {c : Lookup O K} {count next turn : ℕ} {b : T}
      (h : Loading o n limit reports w r most a turn c count b) (counts : next ≡ counted_up count)
      {words : List ℕ} (same : w.latch.words ≡ words) {load : NextLoad K}
      (loads_next : LoadsNextFrom o c words load) {sequence : ℕ}
      (reads : sequence ≡ at words 0) where
    abbrev v : Moment K
    v = last_of w h.run

    in_hand : (l : PendingLookup K) × (get v.lookups r ≡ Some l) × IsLookupOf o n c l
    in_hand = shown o n (Some c) (get v.lookups r) c refl h.holding.lookup

    here : v.latch.words ≡ words
    here = ap (λ (l : Latch). l.words) h.holding.latch ∙ same

    abbrev given : Reply K → Outcome K
    given reply = record { number = next; load = Some load; reply = reply; sequence = sequence }

    module _ (reply : Reply K) (v' : Moment K) (el : v'.latch ≡ v.latch)
        (ee : v'.events ≡ counted_up v.events) where
      abbrev new_load : Done K
      new_load = step_done (Read r) reply v'

      run_on : load_done v r (after_load o n v r in_hand.0) ≡ (reply, v')
          → Run (machine o n limit) w (h.run ++ new_load ∷ [])
      run_on loads = run_append o n limit w h.run (new_load ∷ []) h.steps
          (ap (read_done o n v r) in_hand.1 ∙ loads, tt)

      counted : next ≡ v'.events
      counted = counts ∙ ap counted_up h.holding.events ∙ sym ee

      is_given : given reply ≡ outcome_of o n v new_load
      is_given =
          let loaded : Some load ≡ option_map (next_load o n v.latch.words) (get v.lookups r) =
          ap Some
          (loads_next n in_hand.0 in_hand.2 ∙ ap (λ ws. next_load o n ws in_hand.0) (sym here))
          ∙ ap (option_map (next_load o n v.latch.words)) (sym in_hand.1) in
          let first : sequence ≡ at v'.latch.words 0 =
          reads ∙ ap (λ ws. at ws 0) (sym here) ∙ ap (λ (l : Latch). at l.words 0) (sym el) in
          λ i. record { number = counted i; load = loaded i; reply = reply; sequence = first i }

      reported_on : {b' : T} → reports b (Read r) (given reply) b'
          → AreReported o n reports w (h.run ++ new_load ∷ []) a b'
      reported_on {b' = b'} told =
          reported_append o reports n w h.run (new_load ∷ []) a b b' h.reported
          (b', subst (λ x. reports b (Read r) x b') is_given told, refl)

      holds_on : (c' : Option (Lookup O K)) → IsPendingLookup o n c' (get v'.lookups r)
          → ((q : ℕ) → q ≢ r → get v'.lookups q ≡ get v.lookups q)
          → ChangesOneLookup o n w (last_of w (h.run ++ new_load ∷ [])) r c' next
      holds_on c' is others =
          subst (λ x. ChangesOneLookup o n w x r c' next)
          (sym (last_append w h.run (new_load ∷ [])))
          (record {
            latch = el ∙ h.holding.latch;
            lookup = is;
            others = λ q ne. others q ne ∙ h.holding.others q ne;
            events = counted;
          })

    pub loads_more : (becomes : PendingLookup K → AfterLoad K) {c' : Lookup O K} (reply : Reply K)
        {b' : T}
        → ((l : PendingLookup K) → IsLookupOf o n c l → (l' : PendingLookup K) × IsLookupOf o n
        c' l' × ((x : Moment K) → x.latch.words ≡ words → after_load o n x r l ≡ becomes l'))
        → ((l' : PendingLookup K)
        → load_done v r (becomes l') ≡ (reply, with_lookups v (insert v.lookups r l')))
        → ((x : Moment K) → ends (ReadCommand r most) reply x ≡ false)
        → reports b (Read r) (given reply) b'
        → Loading o n limit reports w r most a (turn + 1) c' next b'
    loads_more becomes {c' = c'} reply loads leads goes told =
        let (l', is, loaded) = loads in_hand.0 in_hand.2 in
        let v' = with_lookups v (insert v.lookups r l') in
        record {
          run = h.run ++ step_done (Read r) reply v' ∷ [];
          steps = run_on reply v' refl refl (ap (load_done v r) (loaded v here) ∙ leads l');
          unended = unended_push (ReadCommand r most) h.run (step_done (Read r) reply v') h.unended
              refl (goes v');
          turns = length-append h.run (step_done (Read r) reply v' ∷ []) ∙ ap (λ j. j + 1) h.turns;
          reported = reported_on reply v' refl refl told;
          holding = holds_on reply v' refl refl (Some c')
              (subst (IsPendingLookup o n (Some c')) (sym (get-insert_same v.lookups r l')) is)
              (λ q ne. get-insert_other v.lookups q r l' ne);
        }

    pub load_ends : (x : Returned K) {b' : T} → turn < most
        → ((l : PendingLookup K) → IsLookupOf o n c l
        → LoadsTo {O = O} o n words r next l (ReturnedLoad x))
        → reports b (Read r) (given (ReturnedReply x)) b'
        → LoadsOn {O = O} (machine o n limit) reports w r most a
        (record { lookup = None; events = next }) b'
    load_ends x lt loads told =
        let v' = with_lookups v (remove v.lookups r) in
        record {
          run = h.run ++ step_done (Read r) (ReturnedReply x) v' ∷ [];
          steps = run_on (ReturnedReply x) v' refl refl (ap (load_done v r) (loads in_hand.0
              in_hand.2 v here (ap counted_up (sym h.holding.events) ∙ sym counts)));
          repeats = repeats_ended (ReadCommand r most) h.run most
              (step_done (Read r) (ReturnedReply x) v') h.unended (let t = h.turns in
              omega arith) refl refl;
          reported = reported_on (ReturnedReply x) v' refl refl told;
          holding = holds_on (ReturnedReply x) v' refl refl None
              (subst (IsPendingLookup {O = O} o n None) (sym (get-remove_same v.lookups r)) tt)
              (λ q ne. get-remove_other v.lookups q r ne);
        }

  pub all_loaded : {c : Lookup O K} {count turn : ℕ} {b : T}
      → Loading o n limit reports w r most a turn c count b → turn ≡ most → LoadsOn
      (machine o n limit) reports w r most a (record { lookup = Some c; events = count }) b
  all_loaded h e =
      record {
        run = h.run;
        steps = h.steps;
        repeats = repeats_full (ReadCommand r most) h.run most h.unended (h.turns ∙ e);
        reported = h.reported;
        holding = h.holding;
      }

-- the lookup is put back, or its place is left empty
pub held_obeys : {O K T : Type 0} (o : Order K) (reports : T → Event K → Outcome K → T → Type 0)
    (c : World O K) (r most : ℕ) (lk : Lookup O K) → Some lk ≡ lookup_at c.lookups r
    → (words : List ℕ) → words ≡ c.words.items
    → (a b : T) (loads : LookupProgress O K) (ds : BTreeMap ℕ (Option (Lookup O K)))
    → ((q : ℕ) → lookup_at ds q ≡ cond (is_at (nat_cmp r) q) loads.lookup (lookup_at c.lookups q))
    → LoadsFrom o reports words lk r most c.events a loads b
    → ObeysFromAny o reports (ReadCommand r most) c
    (record c { lookups = ds; events = loads.events }) a b
held_obeys o reports c r most lk there words same a b loads ds e made w s =
    let n = capacity_of c.layout in
    let here = shown o n (lookup_at c.lookups r) (get w.lookups r) lk there (s.lookups r) in
    let within : most ≡ reads_within (get w.lookups r) most =
    ap (λ f. reads_within f most) (sym here.1) in
    let l = made n (limit_of c.layout) w (sym s.words ∙ sym same)
    (subst (λ q. IsPendingLookup o n q (get w.lookups r)) (sym there) (s.lookups r)) s.events in
    let h = l.holding in (
      l.run,
      record {
        layout = refl;
        steps = l.steps;
        shows = record {
          capacity = s.capacity;
          limit = s.limit;
          words = s.words ∙ ap (λ (x : Latch). x.words) (sym h.latch);
          writer = subst (RepresentsLatch c.writer) (sym h.latch) s.writer;
          lookups = in_hand_at o n (lookup_at c.lookups) (lookup_at ds) w.lookups
              (last_of w l.run).lookups r loads.lookup s.lookups e h.lookup h.others;
          events = h.events;
        };
        shallow = reads_shallow o n (limit_of c.layout) r most l.run w most l.steps l.repeats
            (shows_shallow c w s);
        reported = l.reported;
      },
      subst (λ m. Repeats (ReadCommand r most) m l.run) within l.repeats,
    )
