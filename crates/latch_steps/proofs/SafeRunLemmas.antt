-- Every lookup that returns is right, and its item is in the table of its generation, so it answers
-- for each key in it while that generation is current.
use Rattle.latch_steps.proofs.Definitions.{◌≡◌, ℕ, suc, ◌+◌, ◌<◌, ◌≤◌, List, ◌++◌, Option, Some}
use Rattle.latch_steps.proofs.Definitions.{None, refl, sym, ◌∙◌, ap, subst, arith, append-nil, ◌-◌}
use Rattle.latch_steps.proofs.Definitions.{◌^◌, [], ◌∷◌, length, take, append_assoc, Contains}
use Rattle.latch_steps.proofs.Definitions.{nat_cmp, FinMap, get, insert, remove, get-empty, Update}
use Rattle.latch_steps.proofs.Definitions.{Refusal, Event, Begin, Write, Start, Read, Reply, Order}
use Rattle.latch_steps.proofs.Definitions.{IsLawful, look, IsLook, replay, current_table, table_at}
use Rattle.latch_steps.proofs.Definitions.{at, generation_of, stable_copy_of, PendingUpdate}
use Rattle.latch_steps.proofs.Definitions.{PendingLookup, Moment, accepted, Done, opening, history}
use Rattle.latch_steps.proofs.Definitions.{moment_at, machine, counted_up, with_lookups, return_of}
use Rattle.latch_steps.proofs.Definitions.{IsBegin, IsWrite, start_done, load_done, read_done, Step}
use Rattle.latch_steps.proofs.Definitions.{Run, IsSound, AreTables, standing_step, gen_within}
use Rattle.latch_steps.proofs.Definitions.{sound_opening, AllByRecursion, take-append-le, Item}
use Rattle.latch_steps.specs.declared.replies.Returned.{Returned}
use Rattle.latch_steps.specs.declared.replies.Reply.TheVariants.{Returned as ReturnedReply}
use Rattle.latch_steps.proofs.RunLemmas.{step_sound, step_counts}
use Rattle.latch_steps.proofs.LoadLemmas.{IsGoing, each_insert, each_remove, none_loaded}
use Rattle.latch_steps.proofs.LoadLemmas.{by_sound_load}
use Rattle.latch_steps.specs.Safe.{IsSafeReply, IsSafe, IsCurrent}
use Rattle.order_laws.proofs.TableLemmas.{look_is, look_only}
use Rattle.latch_steps.specs.Memory.{AnswersFromMemory, IsRememberedReply, IsRemembered}

-- what holds of a pending lookup
pub record IsLookup {K : Type 0} (o : Order K) (n : ℕ) (m : List ℕ) (c : ℕ)
    (l : PendingLookup K) : Type 0 where
  pub first : l.first ≤ c
  pub going : IsGoing o n m l

abbrev pub AreLookups : {K : Type 0} → Order K → ℕ → List ℕ → ℕ → FinMap nat_cmp (PendingLookup K)
    → Type 0
AreLookups {K} o n m c ls = (q : ℕ) (l : PendingLookup K) → get ls q ≡ Some l → IsLookup o n m c l

-- what holds of a world after c events and these updates
pub record IsWorld {K : Type 0} (o : Order K) (n start : ℕ) (us : List Update) (c : ℕ)
    (w : Moment K) : Type 0 where
  pub latch : IsSound o n start us w.latch
  pub lookups : AreLookups o n w.latch.words c w.lookups
  pub events : w.events ≡ c

-- a lookup that returned just now is right of this world
pub record IsRightNow {K : Type 0} (o : Order K) (start : ℕ) (us : List Update) (c : ℕ)
    (w : Moment K) (x : Returned K) : Type 0 where
  pub first : x.first ≤ c
  pub last : x.last ≡ c
  pub generation : x.generation ≡ generation_of (at w.latch.words 0)
  pub answer : x.answer ≡ look o x.key (current_table o start us w.latch.words)

abbrev pub IsRight : {K : Type 0} → Order K → ℕ → List Update → ℕ → Moment K → Reply K → Type 0
IsRight o start us c w (ReturnedReply x) = IsRightNow o start us c w x
IsRight o start us c w _ = Unit {0}

-- what one event leads to
pub record ComesTo {K : Type 0} (o : Order K) (n start : ℕ) (us : List Update) (c : ℕ)
    (w : Moment K) (r : Reply K) : Type 0 where
  pub world : IsWorld o n start us c w
  pub right : IsRight o start us c w r

module _ {K : Type 0} (o : Order K) (n : ℕ) where
  later : (m : List ℕ) (c : ℕ) (l : PendingLookup K) → IsLookup o n m c l → IsLookup o n m (c + 1) l
  later m c l h = record { first = (let f = h.first in omega arith); going = h.going }

  all_later : (m : List ℕ) (c : ℕ) (ls : FinMap nat_cmp (PendingLookup K)) → AreLookups o n m c ls
      → AreLookups o n m (c + 1) ls
  all_later m c ls h q l e = later m c l (h q l e)

module _ {K : Type 0} (o : Order K) (law : IsLawful o) (n start : ℕ) (us : List Update) (c : ℕ)
    (w : Moment K) (ok : IsWorld o n start us c w) (room : counted_up c ≡ c + 1) where
  -- a reply of an event and the moment after it
  abbrev Leads : Event K → Reply K × Moment K → Type 0
  Leads e done = AreLookups o n done.1.latch.words (c + 1) done.1.lookups
      × IsRight o start (us ++ accepted e done.0) (c + 1) done.1 done.0

  still : AreLookups o n w.latch.words (c + 1) w.lookups
  still = all_later o n w.latch.words c w.lookups ok.lookups

  -- the reader has this lookup
  with_one : (r : ℕ) (l : PendingLookup K) → l.first ≤ c + 1 → IsGoing o n w.latch.words l
      → AreLookups o n w.latch.words (c + 1) (insert w.lookups r l)
  with_one r l le going = each_insert (IsLookup o n w.latch.words (c + 1)) w.lookups r l still
      (record { first = le; going = going })

  counted : counted_up w.events ≡ c + 1
  counted = ap counted_up ok.events ∙ room

  read_leads : (r : ℕ) (found : Option (PendingLookup K)) → get w.lookups r ≡ found
      → Leads (Read r) (read_done o n w r found)
  read_leads r None e = (still, tt)
  read_leads r (Some l) e =
      let is = ok.lookups r l e in
      let first = is.first in
      by_sound_load o law n start us w ok.latch r l is.going (λ x. Leads (Read r) (load_done w r x))
      (λ going. (with_one r _ (omega arith) going, tt))
      (λ moved. (with_one r _ (omega arith) (none_loaded o n w.latch.words _ refl), tt)) (
        each_remove (IsLookup o n w.latch.words (c + 1)) w.lookups r still,
        subst (λ vs. IsRightNow o start vs (c + 1) (with_lookups w (remove w.lookups r))
            (return_of w r l (look o l.key (current_table o start us w.latch.words))
            (generation_of (at w.latch.words 0)))) (sym (append-nil us))
            (record { first = omega arith; last = counted; generation = refl; answer = refl }),
      )

  start_leads : (r : ℕ) (k : K) (found : Option (PendingLookup K))
      → Leads (Start r k) (start_done w r k found)
  start_leads r k (Some l) = (still, tt)
  start_leads r k None =
      (with_one r _ (let e = counted in omega arith) (none_loaded o n w.latch.words _ refl), tt)

  write_leads : (pending : Option PendingUpdate) (reply : Reply K) (w' : Moment K)
      → IsWrite n w pending reply w' → Leads Write (reply, w')
  write_leads None reply w' (er, ew) = subst (Leads Write) (λ i. (sym er i, sym ew i)) (still, tt)
  write_leads (Some h) reply w' (s, may, er, ew) =
      subst (Leads Write) (λ i. (sym er i, sym ew i)) (
        λ q l f.
            let is = still q l f in
            record {
              first = is.first;
              going = record {
                standing = standing_step o n l.key w.latch h s l.values ok.latch.sized may
                    is.going.standing;
                word = is.going.word;
                go = is.going.go;
                left = is.going.left;
              };
            },
        tt,
      )

  begin_leads : (u : Update) (why : Option Refusal) (reply : Reply K) (w' : Moment K)
      → IsBegin o n w u why reply w' → Leads (Begin u) (reply, w')
  begin_leads u (Some why) reply w' (er, ew) =
      subst (Leads (Begin u)) (λ i. (sym er i, sym ew i)) (still, tt)
  begin_leads u None reply w' (left, some, bound, er, ew) =
      subst (Leads (Begin u)) (λ i. (sym er i, sym ew i)) (still, tt)

  step_right : (limit : ℕ) (e : Event K) (reply : Reply K) (w' : Moment K)
      → Step (machine o n limit) w e reply w' → Leads e (reply, w')
  step_right limit (Begin u) reply w' s = begin_leads u _ reply w' s
  step_right limit Write reply w' s = write_leads w.latch.pending reply w' s
  step_right limit (Start r k) reply w' s =
      subst (Leads (Start r k)) s (start_leads r k (get w.lookups r))
  step_right limit (Read r) reply w' s =
      subst (Leads (Read r)) s (read_leads r (get w.lookups r) refl)

pub step_leads : {K : Type 0} (o : Order K) → IsLawful o → (n limit start : ℕ) (us : List Update)
    (c : ℕ) (w : Moment K) → IsWorld o n start us c w → counted_up c ≡ c + 1 → (e : Event K)
    (reply : Reply K) (w' : Moment K) → Step (machine o n limit) w e reply w'
    → ComesTo o n start (us ++ accepted e reply) (c + 1) w' reply
step_leads o law n limit start us c w ok room e reply w' s =
    let (lookups, right) = step_right o law n start us c w ok room limit e reply w' s in
    record {
      world = record {
        latch = step_sound o n start us w ok.latch law limit e reply w' s;
        lookups = lookups;
        events = step_counts o n limit w w' e reply s ∙ ap counted_up ok.events ∙ room;
      };
      right = right;
    }

-- what is left of a whole run after so many of its events, from the moment that it came to
pub record IsLeft {K : Type 0} (w0 : Moment K) (all : List (Done K)) (c : ℕ) (w : Moment K)
    (run : List (Done K)) : Type 0 where
  pub moments : (j : ℕ) → moment_at w0 all (c + j) ≡ moment_at w run j
  pub count : length all ≡ c + length run

module _ {K : Type 0} (w0 : Moment K) (all : List (Done K)) where
  pub all_left : IsLeft w0 all 0 w0 all
  all_left = record {
    moments = λ j. ap (moment_at w0 all) (let f : 0 + j ≡ j = omega arith in f);
    count = omega arith;
  }

  pub left_next : (c : ℕ) (w : Moment K) (d : Done K) (run : List (Done K))
      → IsLeft w0 all c w (d ∷ run) → IsLeft w0 all (c + 1) d.after run
  left_next c w d run h =
      let n = h.count in
      record {
        moments = λ j. ap (moment_at w0 all) (let f : c + 1 + j ≡ c + suc j = omega arith in f)
            ∙ h.moments (suc j);
        count = omega arith;
      }

  pub moment_there : (c : ℕ) (w : Moment K) (run : List (Done K)) → IsLeft w0 all c w run
      → moment_at w0 all c ≡ w
  moment_there c w run h =
      ap (moment_at w0 all) (let f : c ≡ c + 0 = omega arith in f) ∙ h.moments 0

safe_reply : {K : Type 0} (o : Order K) (n start : ℕ) (us rest : List Update) (c : ℕ)
    (w : Moment K) (all : List (Done K)) → history all ≡ us ++ rest
    → generation_of (at w.latch.words 0) - generation_of start ≤ length us → c ≤ length all
    → moment_at (opening n start) all c ≡ w → (r : Reply K) → IsRight o start us c w r
    → IsSafeReply o n start all r
safe_reply o n start us rest c w all e within in_run there (ReturnedReply x) h =
    let same : current_table o start (history all) w.latch.words
    ≡ current_table o start us w.latch.words =
    ap (replay o [])
    (ap (take (generation_of (at w.latch.words 0) - generation_of start)) e ∙ take-append-le
    (generation_of (at w.latch.words 0) - generation_of start) us rest within) in
    record {
      events = c;
      not_before = h.first;
      not_after = (let l = h.last in omega arith);
      in_run = in_run;
      generation_is = h.generation ∙ ap (λ v. generation_of (at v.latch.words 0)) (sym there);
      answer_is = h.answer ∙ ap (look o x.key) (sym same)
          ∙ ap (λ v. look o x.key (current_table o start (history all) v.latch.words)) (sym there);
    }
safe_reply o n start us rest c w all e within in_run there _ h = tt

safe_run : {K : Type 0} (o : Order K) → IsLawful o → (n limit start : ℕ)
    (all run : List (Done K)) (us : List Update) (c : ℕ) (w : Moment K)
    → IsLeft (opening n start) all c w run → IsWorld o n start us c w → c + length run < 2 ^ 64
    → Run (machine o n limit) w run → history all ≡ us ++ history run
    → AllByRecursion (λ (d : Done K). IsSafeReply o n start all d.reply) run
safe_run o law n limit start all [] us c w left ok room steps e = tt
safe_run o law n limit start all (d ∷ run) us c w left ok room steps e =
    let leads =
    step_leads o law n limit start us c w ok (omega arith) d.event d.reply d.after steps.0 in
    let us' = us ++ accepted d.event d.reply in
    let w0 : Moment _ = opening n start in
    let e' : history all ≡ us' ++ history run =
    e ∙ sym (append_assoc us (accepted d.event d.reply) (history run)) in
    let left' = left_next w0 all c w d run left in
    let count = left'.count in (
      safe_reply o n start us' (history run) (c + 1) d.after all
          e' (gen_within o n start us' d.after.latch leads.world.latch) (omega arith)
          (moment_there w0 all (c + 1) d.after run left') d.reply leads.right,
      safe_run o law n limit start all run us' (c + 1) d.after left' leads.world (omega arith)
          steps.1 e',
    )

pub opening_world : {K : Type 0} (o : Order K) (n start : ℕ) → stable_copy_of start ≡ 0
    → IsWorld o n start [] 0 (opening n start)
opening_world {K = K} o n start even =
    let w0 : Moment K = opening n start in
    record {
      latch = sound_opening {K = K} o n start even;
      lookups = λ q l e. (let no : get w0.lookups q ≡ None = get-empty nat_cmp q in absurd (cc));
      events = refl;
    }

-- every run from the opening is safe
pub safe : {K : Type 0} (o : Order K) → IsLawful o → (n limit start : ℕ) → stable_copy_of start ≡ 0
    → (run : List (Done K)) → length run < 2 ^ 64 → Run (machine o n limit) (opening n start) run
    → IsSafe o n start run
safe {K = K} o law n limit start even run room steps =
    let w0 : Moment K = opening n start in
    safe_run o law n limit start run run [] 0 w0 (all_left w0 run) (opening_world o n start even)
    (omega arith) steps refl

-- after each beginning of the history there is a table
tables_run : {K : Type 0} (o : Order K) → IsLawful o → (n limit start : ℕ) (run : List (Done K))
    (us : List Update) (c : ℕ) (w : Moment K) → IsWorld o n start us c w → c + length run < 2 ^ 64
    → Run (machine o n limit) w run → AreTables o n (us ++ history run)
tables_run o law n limit start [] us c w ok room steps =
    subst (AreTables o n) (sym (append-nil us)) ok.latch.tables
tables_run o law n limit start (d ∷ run) us c w ok room steps =
    let leads =
    step_leads o law n limit start us c w ok (omega arith) d.event d.reply d.after steps.0 in
    subst (AreTables o n) (append_assoc us (accepted d.event d.reply) (history run))
    (tables_run o law n limit start run (us ++ accepted d.event d.reply) (c + 1) d.after leads.world
    (omega arith) steps.1)

module _ {K : Type 0} (o : Order K) (law : IsLawful o) (n start : ℕ) (all : List (Done K))
    (tables : AreTables o n (history all)) where
  -- what a lookup returned is in the table of its generation
  there : (x : Returned K) (i : Item) → IsCurrent o n start all x → x.answer ≡ Some i
      → Contains (table_at o start (history all) x.generation) i
  there x i now is =
      let table = table_at o start (history all) x.generation in
      let found : Some i ≡ look o x.key table = sym is ∙ now.answer_is
      ∙ ap (λ g. look o x.key (table_at o start (history all) g)) (sym now.generation_is) in
      (subst (IsLook o x.key table) (sym found) (look_is o x.key table)).0

  remembered : (x : Returned K) → IsCurrent o n start all x → AnswersFromMemory o n start all x
  remembered x now = λ i events is within same k inside.
      look_only o law k (table_at o start (history all)
      (generation_of (at (moment_at (opening n start) all events).latch.words 0))) (Some i)
      (tables (generation_of (at (moment_at (opening n start) all events).latch.words 0)
      - generation_of start)).0 (
        subst (λ g. Contains (table_at o start (history all) g) i) (sym same) (there x i now is),
        inside,
      )

  remembered_reply : (r : Reply K) → IsSafeReply o n start all r → IsRememberedReply o n start all r
  remembered_reply (ReturnedReply x) now = remembered x now
  remembered_reply _ now = tt

  remembered_run : (run : List (Done K))
      → AllByRecursion (λ (d : Done K). IsSafeReply o n start all d.reply) run
      → AllByRecursion (λ (d : Done K). IsRememberedReply o n start all d.reply) run
  remembered_run [] h = tt
  remembered_run (d ∷ run) h = (remembered_reply d.reply h.0, remembered_run run h.1)

-- every run from the opening is remembered so
pub remembers : {K : Type 0} (o : Order K) → IsLawful o → (n limit start : ℕ)
    → stable_copy_of start ≡ 0 → (run : List (Done K)) → length run < 2 ^ 64
    → Run (machine o n limit) (opening n start) run → IsRemembered o n start run
remembers {K = K} o law n limit start even run room steps =
    let w0 : Moment K = opening n start in
    let tables = tables_run o law n limit start run [] 0 w0 (opening_world o n start even)
    (omega arith) steps in
    remembered_run o law n start run tables run (safe o law n limit start even run room steps)
