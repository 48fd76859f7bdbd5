-- Writes up to the end of an update, and a lookup from its start to its return, with no step of the
-- writer between.
use Rattle.latch_steps.proofs.Definitions.{◌≡◌, ℕ, List, [], ◌∷◌, ◌++◌, refl, sym, ◌∙◌, ap, subst}
use Rattle.latch_steps.proofs.Definitions.{⊎_elim, append_assoc, append-nil, ◌≢◌, zero, suc, ◌+◌}
use Rattle.latch_steps.proofs.Definitions.{◌-◌, ◌*◌, ◌≤◌, length, Option, Some, None, arith}
use Rattle.latch_steps.proofs.Definitions.{return_of, AllByRecursion, Order, IsLawful, capacity_of}
use Rattle.latch_steps.proofs.Definitions.{limit_of, Store, Update, IsSound, rest_is_current, Event}
use Rattle.latch_steps.proofs.Definitions.{Begin, Write, Start, Read, Reply, Wrote, Refused}
use Rattle.latch_steps.proofs.Definitions.{Started, Loaded, OutOfMemory, World, Moment, Done}
use Rattle.latch_steps.proofs.Definitions.{step_done, last_of, accepted, history, PendingLookup}
use Rattle.latch_steps.proofs.Definitions.{machine, machine_of, Run, counted_up, with_lookups}
use Rattle.latch_steps.proofs.Definitions.{new_lookup, with_value, after_value, load_left}
use Rattle.latch_steps.proofs.Definitions.{start_done, load_done, read_done, StaysAfter}
use Rattle.latch_steps.proofs.Definitions.{RepresentsMoment, IsAtRest, layout_in, IsAfter}
use Rattle.latch_steps.proofs.Definitions.{machine_in, Does, GivesUp, IsWorldStep, min, get, insert}
use Rattle.latch_steps.proofs.Definitions.{remove, cases_eq, Item, look, get-insert_other}
use Rattle.latch_steps.proofs.Definitions.{get-insert_same, get-remove_other, get-remove_same, at}
use Rattle.latch_steps.proofs.Definitions.{words_for, generation_of, current_table, Answer, Reading}
use Rattle.latch_steps.proofs.Definitions.{Load, Ends, attempt, rest_after, RepresentsLatch}
use Rattle.latch_steps.proofs.Definitions.{IsShallow, rest_push, attempt_ran, attempt_count}
use Rattle.latch_steps.proofs.Definitions.{attempt_depth_count, few_deep_any, shallow_tree}
use Rattle.latch_steps.proofs.Definitions.{stays_now, depth, IsPendingLookup, lookup_at}
use Rattle.latch_steps.specs.declared.replies.Reply.TheVariants.{Returned as ReturnedReply}
use Rattle.facts.proofs.Each.{all_push}
use Rattle.latch_steps.specs.AtOnce.{IsSettled, Settles, IsFoundNow, IsNear, FindsNow, LooksUp}
use Rattle.latch_steps.specs.AtOnce.{HasNoAnswer, table_in}
use Rattle.latch_steps.proofs.RunLemmas.{step_sound, run_append, last_append}
use Rattle.word_layout.proofs.StoreLemmas.{length_after}
use Rattle.latch_core.specs.Whole.{outcome_in, loads_in}
use Rattle.latch_steps.specs.declared.replies.Returned.{Returned}
use Rattle.latch_steps.proofs.WorldLemmas.{shown_none}

-- a run keeps the latch sound
pub run_sound : {K : Type 0} (o : Order K) → IsLawful o → (n limit start : ℕ) (us : List Update)
    (w : Moment K) (run : List (Done K)) → IsSound o n start us w.latch
    → Run (machine o n limit) w run
    → IsSound o n start (us ++ history run) (last_of w run).latch
run_sound o law n limit start us w [] ok steps =
    subst (λ vs. IsSound o n start vs w.latch) (sym (append-nil us)) ok
run_sound o law n limit start us w (d ∷ run) ok steps =
    subst (λ vs. IsSound o n start vs (last_of d.after run).latch)
    (append_assoc us (accepted d.event d.reply) (history run))
    (run_sound o law n limit start (us ++ accepted d.event d.reply) d.after run
    (step_sound o n start us w ok law limit d.event d.reply d.after steps.0) steps.1)

-- events of one kind that accept no update
pub none_accepted : {K : Type 0} (f : Event K) → ((r : Reply K) → accepted f r ≡ [])
    → (run : List (Done K)) → AllByRecursion (λ d. d.event ≡ f) run → history run ≡ []
none_accepted f without [] h = refl
none_accepted f without (d ∷ run) h =
    ap (λ us. us ++ history run) (ap (λ x. accepted x d.reply) h.0 ∙ without d.reply)
    ∙ none_accepted f without run h.1

-- writes so far
pub record Writing {O K : Type 0} (o : Order K) (old now : World O K) (w : Moment K) : Type 0 where
  pub run : List (Done K)
  pub writes : AllByRecursion (λ d. d.event ≡ Write) run
  pub steps : Run (machine_in o old) w run
  pub shows : RepresentsMoment o now (last_of w run)

module _ {O K : Type 0} (o : Order K) (old : World O K) where
  pub one_write : (now new : World O K) (s : Store) (w : Moment K) → Writing o old now w
      → layout_in now ≡ layout_in old → Does o now Write (Wrote s) new → Writing o old new w
  one_write now new s w h lay does =
      let d = does (last_of w h.run) h.shows in
      let one : Done K = step_done Write (Wrote s) d.0 in
      let step = subst (λ l. Run (machine_of o l) (last_of w h.run) (one ∷ [])) lay (d.1, tt) in
      record {
        run = h.run ++ one ∷ [];
        writes = all_push (λ (x : Done K). x.event ≡ Write) h.run one h.writes refl;
        steps = run_append o (capacity_of (layout_in old)) (limit_of (layout_in old)) w h.run
            (one ∷ []) h.steps step;
        shows = subst (RepresentsMoment o new) (sym (last_append w h.run (one ∷ []))) d.2;
      }

  pub all_written : (now new : World O K) (w : Moment K) → Writing o old now w → IsAtRest o now
      → new ≡ now → Settles o old w new
  all_written now new w h rest same =
      record {
        run = h.run;
        writes = h.writes;
        steps = h.steps;
        shows = subst (λ c. RepresentsMoment o c (last_of w h.run)) (sym same) h.shows;
        rest = rest (last_of w h.run) h.shows;
      }

  pub is_settled : IsLawful o → (new : World O K) (start : ℕ) (us : List Update)
      → layout_in new ≡ layout_in old
      → ((w : Moment K) → RepresentsMoment o old w → Settles o old w new)
      → IsAfter o start us old → IsSettled o start us new
  is_settled law new start us lay settles h =
      let d = settles h.moment h.shows in
      let sound = run_sound o law (capacity_of (layout_in old)) (limit_of (layout_in old)) start us
      h.moment d.run h.sound d.steps in
      let none : us ++ history d.run ≡ us =
      ap (λ vs. us ++ vs) (none_accepted Write (λ r. refl) d.run d.writes) ∙ append-nil us in
      let same = subst
      (λ vs. IsSound o (capacity_of (layout_in old)) start vs (last_of h.moment d.run).latch)
      none sound in
      record {
        after = record {
          moment = last_of h.moment d.run;
          shows = d.shows;
          sound = subst (λ l. IsSound o (capacity_of l) start us (last_of h.moment d.run).latch)
              (sym lay) same;
        };
        rest = d.rest;
        current = rest_is_current o (capacity_of (layout_in old)) start us
            (last_of h.moment d.run).latch same d.rest;
      }

-- one event, of which an accepted update is the last of the history
module _ {O K : Type 0} (o : Order K) (law : IsLawful o) (old new : World O K) (lay : layout_in new
    ≡ layout_in old) (start : ℕ) (us : List Update) (h : IsAfter o start us old) where
  does_after : (e : Event K) (r : Reply K) → Does o old e r new
      → IsAfter o start (us ++ accepted e r) new
  does_after e r does =
      let d = does h.moment h.shows in
      record {
        moment = d.0;
        shows = d.2;
        sound = subst (λ l. IsSound o (capacity_of l) start (us ++ accepted e r) d.0.latch)
            (sym lay) (step_sound o (capacity_of (layout_in old)) start us h.moment h.sound law
            (limit_of (layout_in old)) e r d.0 d.1);
      }

  gives_after : (e : Event K) (r : Reply K) → GivesUp o old e r new → IsAfter o start us new
  gives_after e r up = record {
    moment = h.moment;
    shows = (up.1 h.moment h.shows).1;
    sound = subst (λ l. IsSound o (capacity_of l) start us h.moment.latch) (sym lay) h.sound;
  }

  refused_after : (e : Event K) (r : Reply K) → accepted e (Refused OutOfMemory) ≡ []
      → GivesUp o old e r new → IsAfter o start (us ++ accepted e r) new
  refused_after e r none up =
      let same : us ++ accepted e r ≡ us =
      ap (λ q. us ++ accepted e q) up.0 ∙ ap (λ vs. us ++ vs) none ∙ append-nil us in
      subst (λ vs. IsAfter o start vs new) (sym same) (gives_after e r up)

  pub step_after : (e : Event K) (r : Reply K) → IsWorldStep o old e r new
      → IsAfter o start (us ++ accepted e r) new
  step_after (Begin u) r s = ⊎_elim (does_after (Begin u) r) (refused_after (Begin u) r refl) s
  step_after Write r s = does_after Write r s
  step_after (Start q k) r s =
      ⊎_elim (does_after (Start q k) r) (refused_after (Start q k) r refl) s
  step_after (Read q) r s = does_after (Read q) r s

-- the same of an event under another name
pub event_after : {O K : Type 0} {o : Order K} → IsLawful o → {old new : World O K}
    → layout_in new ≡ layout_in old → {e e' : Event K} → e ≡ e' → (r : Reply K)
    → IsWorldStep o old e' r new → StaysAfter o old e r new
event_after {K = K} {o = o} law {old} {new} lay {e} is r s = λ start us h.
    step_after o law old new lay start us h e r
    (subst (λ (x : Event K). IsWorldStep o old x r new) (sym is) s)

-- a count after so many steps
abbrev pub later : ℕ → ℕ → ℕ
later zero count = count
later (suc steps) count = later steps (counted_up count)

pub later_is : (steps count : ℕ) → count ≤ 18446744073709551615
    → later steps count ≡ min (count + steps) 18446744073709551615
later_is zero count most = omega arith
later_is (suc steps) count most = later_is steps (counted_up count) (omega arith) ∙ (omega arith)

-- what a pending lookup returns with so many loads more
abbrev pub returned_after : {K : Type 0} → ℕ → Moment K → PendingLookup K → Option Item → ℕ → ℕ
    → Returned K
returned_after r w l answer g loads =
    record (return_of w r l answer g) { last = later loads w.events; loads = later loads l.loads }

-- so many loads of a reader lead from a moment, where this lookup is pending, to its return
pub record Ending {K : Type 0} (o : Order K) (n limit : ℕ) (r : ℕ) (w : Moment K)
    (l : PendingLookup K) (answer : Option Item) (g loads : ℕ) : Type 0 where
  pub run : List (Done K)
  pub done : Moment K
  pub reads : AllByRecursion (λ d. d.event ≡ Read r) run
  pub steps : Run (machine o n limit) w
      (run ++ step_done (Read r) (ReturnedReply (returned_after r w l answer g loads)) done ∷ [])
  pub latch : done.latch ≡ w.latch
  pub events : done.events ≡ later loads w.events
  pub gone : get done.lookups r ≡ None
  pub others : (q : ℕ) → q ≢ r → get done.lookups q ≡ get w.lookups q

module _ {K : Type 0} (o : Order K) (n limit : ℕ) (m : List ℕ) (r : ℕ) where
  -- one load of the word that the attempt wants
  read_step : (w : Moment K) (l : PendingLookup K) (word : ℕ) (go : ℕ → Reading) (next : Reading)
      → w.latch.words ≡ m → get w.lookups r ≡ Some l
      → rest_after (attempt o n l.key) l.values ≡ Some (Load word go) → go (at m word) ≡ next
      → read_done o n w r (get w.lookups r) ≡ load_done w r (after_value w r l (at m word) next)
  read_step w l word go next words there going is =
      ap (read_done o n w r) there
      ∙ ap (load_done w r) (ap (load_left w r l) going ∙ ap (λ ws. after_value w r l (at ws word)
      (go (at ws word))) words ∙ ap (after_value w r l (at m word)) is)

  -- the rest of the attempt, load by load
  pub ending : (rest : Reading) (w : Moment K) (l : PendingLookup K) (word : ℕ) (go : ℕ → Reading)
      (answer : Option Item) (g : ℕ) → w.latch.words ≡ m → get w.lookups r ≡ Some l
      → rest_after (attempt o n l.key) l.values ≡ Some (Load word go) → go (at m word) ≡ rest
      → outcome_in m rest ≡ Answer answer g
      → Ending o n limit r w l answer g (suc (loads_in m rest))
  ending (Ends out) w l word go answer g words there going is comes =
      record {
        run = [];
        done = with_lookups w (remove w.lookups r);
        reads = tt;
        steps = (
          read_step w l word go (Ends (Answer answer g)) words there going (is ∙ ap Ends comes),
          tt,
        );
        latch = refl;
        events = refl;
        gone = get-remove_same w.lookups r;
        others = λ q ne. get-remove_other w.lookups q r ne;
      }
  ending (Load word' go') w l word go answer g words there going is comes =
      let l' : PendingLookup K = with_value l (at m word) in
      let w' = with_lookups w (insert w.lookups r l') in
      let left = rest_push (attempt o n l.key) l.values word go (at m word) going ∙ ap Some is in
      let h = ending (go' (at m word')) w' l' word' go' answer g words
      (get-insert_same w.lookups r l') left refl comes in
      record {
        run = step_done (Read r) Loaded w' ∷ h.run;
        done = h.done;
        reads = (refl, h.reads);
        steps = (read_step w l word go (Load word' go') words there going is, h.steps);
        latch = h.latch;
        events = h.events;
        gone = h.gone;
        others = λ q ne. h.others q ne ∙ get-insert_other w.lookups q r l' ne;
      }

-- what a lookup returns at its first attempt
abbrev pub found_once : {K : Type 0} → ℕ → K → Option Item → ℕ → ℕ → ℕ → ℕ → Returned K
found_once r k answer g first last loads = record {
  reader = r;
  key = k;
  answer = answer;
  generation = g;
  first = first;
  last = last;
  loads = loads;
  attempts = 1;
}

module _ {O K : Type 0} (o : Order K) (law : IsLawful o) (old : World O K) (r : ℕ) (k : K) where
  -- the whole lookup, where the reader has none pending
  pub look_found : (answer : Option Item) (g loads first last : ℕ) → loads ≤ 18446744073709551615
      → lookup_at old.lookups r ≡ None → LooksUp o old k answer g loads
      → first ≡ counted_up old.events → last ≡ min (first + loads) 18446744073709551615
      → (w : Moment K) → RepresentsMoment o old w
      → FindsNow o old w r k (found_once r k answer g first last loads)
      (record old { events = last })
  look_found answer g loads first last most free found ef el w s =
      let n = capacity_of old.layout in
      let m = old.words.items in
      let none_there : get w.lookups r ≡ None =
      shown_none o n (lookup_at old.lookups r) (get w.lookups r) free (s.lookups r) in
      let l : PendingLookup K = new_lookup k (counted_up w.events) in
      let w' = with_lookups w (insert w.lookups r l) in
      let h = ending o n (limit_of old.layout) m r _ w' l 0 _ answer g (sym s.words)
      (get-insert_same w.lookups r l) refl refl found.comes_to in
      let count : first ≡ counted_up w.events = ef ∙ ap counted_up s.events in
      let few : later (loads_in m (attempt o n k)) 0 ≡ loads =
      later_is (loads_in m (attempt o n k)) 0 (omega arith)
      ∙ (let c = found.counts in omega arith) in
      let end : later (loads_in m (attempt o n k)) (counted_up w.events) ≡ last =
      later_is (loads_in m (attempt o n k)) (counted_up w.events) (omega arith)
      ∙ (let c = found.counts in omega arith) in
      record {
        begun = w';
        run = h.run;
        done = h.done;
        reads = h.reads;
        steps = (
          ap (start_done w r k) none_there,
          subst (λ x. Run (machine o n (limit_of old.layout))
              w' (h.run ++ step_done (Read r) (ReturnedReply x) h.done ∷ []))
              (λ i. found_once r k answer g (sym count i) (end i) (few i)) h.steps,
        );
        shows = record {
          capacity = s.capacity;
          limit = s.limit;
          words = s.words ∙ sym (ap (λ v. v.words) h.latch);
          writer = subst (λ v. RepresentsLatch old.writer v) (sym h.latch) s.writer;
          lookups = λ q.
              ⊎_elim
              (λ same. subst (λ j. IsPendingLookup {O = O} o n (lookup_at old.lookups j)
              (get h.done.lookups j)) (sym same)
              (subst (λ x. IsPendingLookup {O = O} o n x (get h.done.lookups r)) (sym free)
              (subst (IsPendingLookup {O = O} o n None) (sym h.gone) tt)))
              (λ ne. subst (λ x. IsPendingLookup {O = O} o n (lookup_at old.lookups q) x)
              (sym (h.others q ne ∙ get-insert_other w.lookups q r l ne)) (s.lookups q))
              (cases_eq q r);
          events = sym end ∙ sym h.events;
        };
      }

  -- what it finds is the lookup of the current table
  module _ (start' : ℕ) (us : List Update) (h : IsAfter o start' us old) where
    pub right_answer : outcome_in old.words.items (attempt o (capacity_of old.layout) k)
        ≡ Answer (look o k (current_table o start' us h.moment.latch.words))
        (generation_of (at h.moment.latch.words 0))
    right_answer =
        let ts =
        h.sound.tables (generation_of (at h.moment.latch.words 0) - generation_of start') in
        ap (λ m. outcome_in m (attempt o (capacity_of old.layout) k)) h.shows.words
        ∙ attempt_ran o law h.moment.latch.words (capacity_of old.layout) k _ h.sound.current.0
        h.sound.current.1 ts.0 ts.1

    pub few_loads : (answer : Option Item) (g loads : ℕ) → LooksUp o old k answer g loads
        → loads ≤ 4 * length (current_table o start' us h.moment.latch.words) + 3
    few_loads answer g loads found =
        let ts =
        h.sound.tables (generation_of (at h.moment.latch.words 0) - generation_of start') in
        let e = sym found.counts
        ∙ ap (λ m. loads_in m (attempt o (capacity_of old.layout) k)) h.shows.words in
        omega (
          arith,
          attempt_count o law h.moment.latch.words (capacity_of old.layout) k
              (current_table o start' us h.moment.latch.words) h.sound.current.0 h.sound.current.1
              ts.0 ts.1,
        )

    pub look_told : (answer : Option Item) (g loads first last : ℕ) → LooksUp o old k answer g loads
        → (let x : Returned K = found_once r k answer g first last loads in
        IsFoundNow o (table_in h) (generation_of (at h.moment.latch.words 0)) r k x
        × IsNear (table_in h) x)
    look_told answer g loads first last found =
        let same = sym found.comes_to ∙ right_answer in
        let n = capacity_of old.layout in
        let m = h.moment.latch.words in
        let table = current_table o start' us m in
        let ts = h.sound.tables (generation_of (at m 0) - generation_of start') in
        let t = h.sound.current.0 in
        let holds = h.sound.current.1 in
        let low : IsShallow n m = subst (λ q. IsShallow q m) h.shows.capacity
        (stays_now old.writer.capacity m old.writer.stores_left h.shows.writer.shallow) in
        let e = sym found.counts ∙ ap (λ v. loads_in v (attempt o n k)) h.shows.words in (
          record {
            reader = refl;
            key = refl;
            look = record {
              answer = cc;
              generation = cc;
              attempts = refl;
              loads = few_loads answer g loads found;
            };
          },
          (
            depth t,
            few_deep_any m n table t holds (shallow_tree n m table t holds low),
            omega (arith, attempt_depth_count o law m n k table t holds ts.0 ts.1),
          ),
        )

    -- there is always an answer
    pub look_never : HasNoAnswer o old k → ⊥
    look_never none =
        ⊎_elim
        (λ short. short (ap length h.shows.words ∙ sym (length_after h.moment.latch.words
        old.writer.stores_left) ∙ h.shows.writer.at_rest.sized ∙ ap words_for h.shows.capacity))
        (λ again. let f = sym again ∙ right_answer in cc) none

  pub after_found : (new : World O K) (x : Returned K)
      → ((w : Moment K) → RepresentsMoment o old w → FindsNow o old w r k x new)
      → layout_in new ≡ layout_in old
      → (start' : ℕ) (us : List Update) → IsAfter o start' us old → IsAfter o start' us new
  after_found new x finds lay start' us h =
      let f = finds h.moment h.shows in
      let n = capacity_of (layout_in old) in
      let one : Done K = step_done (Read r) (ReturnedReply x) f.done in
      let run : List (Done K) = f.run ++ one ∷ [] in
      let ends : last_of f.begun run ≡ f.done = last_append f.begun f.run (one ∷ []) in
      let sound = run_sound o law n (limit_of (layout_in old)) start' us h.moment
      (step_done (Start r k) Started f.begun ∷ run) h.sound f.steps in
      let none : us ++ history run ≡ us =
      ap (λ vs. us ++ vs) (none_accepted (Read r) (λ q. refl) run
      (all_push (λ (d : Done K). d.event ≡ Read r) f.run one f.reads refl)) ∙ append-nil us in
      let same = subst (λ v. IsSound o n start' us v.latch) ends
      (subst (λ vs. IsSound o n start' vs (last_of f.begun run).latch) none sound) in
      record {
        moment = f.done;
        shows = f.shows;
        sound = subst (λ l. IsSound o (capacity_of l) start' us f.done.latch) (sym lay) same;
      }
