-- Runs in which updates and lookups come one after another.
use Rattle.latch_steps.proofs.Definitions.{◌≡◌, ◌≢◌, ℕ, ◌+◌, ◌-◌, ◌*◌, ◌%◌, ◌<◌, ◌≤◌, Bool, true}
use Rattle.latch_steps.proofs.Definitions.{false, cond, List, [], ◌∷◌, ◌++◌, length, Option, Some}
use Rattle.latch_steps.proofs.Definitions.{None, refl, sym, ◌∙◌, ap, subst, ⊎_elim, arith}
use Rattle.latch_steps.proofs.Definitions.{length-append, is_some, nat_cmp, get, insert, remove}
use Rattle.latch_steps.proofs.Definitions.{get-empty, cases_eq, Order, IsLawful, look, Refusal, at}
use Rattle.latch_steps.proofs.Definitions.{Update, generation_of, stable_copy_of, replay}
use Rattle.latch_steps.proofs.Definitions.{current_table, IsSound, IsPendingOf, PendingUpdate}
use Rattle.latch_steps.proofs.Definitions.{Latch, attempt, Stand, sound_opening, current_at_rest}
use Rattle.latch_steps.proofs.Definitions.{attempt_loads, Command, Event, Begin, Write, Start, Read}
use Rattle.latch_steps.proofs.Definitions.{Reply, PendingLookup, Moment, Done, accepted, last_of}
use Rattle.latch_steps.proofs.Definitions.{opening, machine, with_lookups, IsBegin, IsWrite}
use Rattle.latch_steps.proofs.Definitions.{return_of, start_done, load_done, read_done, Step, Run}
use Rattle.latch_steps.proofs.Definitions.{ends, event_of, most_of, Repeats}
use Rattle.latch_steps.specs.declared.commands.Command.TheVariants.{Begin as BeginCommand}
use Rattle.latch_steps.specs.declared.commands.Command.TheVariants.{Write as WriteCommand}
use Rattle.latch_steps.specs.declared.commands.Command.TheVariants.{WriteFlip, WriteEnd}
use Rattle.latch_steps.specs.declared.commands.Command.TheVariants.{Start as StartCommand}
use Rattle.latch_steps.specs.declared.commands.Command.TheVariants.{Read as ReadCommand}
use Rattle.latch_steps.specs.Plain.{IsPlainEvent, IsPlain, ArePlain, IsLookAfter, IsLookReply}
use Rattle.latch_steps.specs.Plain.{AreLooksAfter}
use Rattle.latch_steps.proofs.LoadLemmas.{IsGoing, each_insert, each_remove, none_loaded, by_load}
use Rattle.latch_steps.proofs.IdleLemmas.{read_reads}
use Rattle.latch_steps.proofs.RunLemmas.{step_sound}

-- a pending lookup at its first attempt, since whose start the writer has had no pending update
record IsAlone {K : Type 0} (o : Order K) (n : ℕ) (latch : Latch) (l : PendingLookup K) : Type
    0 where
  rest : latch.pending ≡ None
  going : IsGoing o n latch.words l
  stand : Stand latch.words (attempt o n l.key) l.values
  first : l.attempts ≡ 1
  few : l.loads ≤ length l.values

abbrev AreAlone : {K : Type 0} → Order K → ℕ → Moment K → Type 0
AreAlone {K} o n w =
    (q : ℕ) (l : PendingLookup K) → get w.lookups q ≡ Some l → IsAlone o n w.latch l

module _ {K : Type 0} (o : Order K) (law : IsLawful o) (n start : ℕ) (us : List Update)
    (w : Moment K) (ok : IsSound o n start us w.latch) (alone : AreAlone o n w) where
  -- a reply and the moment after it
  abbrev Leads : Reply K × Moment K → Type 0
  Leads done = AreAlone o n done.1 × IsLookReply o start us done.0

  -- no lookup is pending at an event that is no load
  nobody : (e : Event K) → IsPlainEvent w e → ((r : ℕ) → e ≡ Read r → ⊥) → (q : ℕ)
      (l : PendingLookup K) → get w.lookups q ≡ Some l → ⊥
  nobody e plain other q l there = other q (plain.readers q (ap is_some there))

  set : (r : ℕ) (new : PendingLookup K) → IsAlone o n w.latch new
      → AreAlone o n (with_lookups w (insert w.lookups r new))
  set r new is = each_insert (IsAlone o n w.latch) w.lookups r new alone is

  gone : (r : ℕ) → AreAlone o n (with_lookups w (remove w.lookups r))
  gone r = each_remove (IsAlone o n w.latch) w.lookups r alone

  begin_leads : (u : Update) (why : Option Refusal) (reply : Reply K) (w' : Moment K)
      → IsPlainEvent w (Begin u) → IsBegin o n w u why reply w' → Leads (reply, w')
  begin_leads u (Some why) reply w' plain (er, ew) =
      subst Leads (λ i. (sym er i, sym ew i)) (alone, tt)
  begin_leads u None reply w' plain (left, some, bound, er, ew) =
      subst Leads (λ i. (sym er i, sym ew i))
      ((λ q l there. absurd (nobody (Begin u) plain (λ r f. absurd (cc)) q l there)), tt)

  write_leads : (pending : Option PendingUpdate) (reply : Reply K) (w' : Moment K)
      → IsPlainEvent w Write
      → IsWrite n w pending reply w' → Leads (reply, w')
  write_leads None reply w' plain (er, ew) = subst Leads (λ i. (sym er i, sym ew i)) (alone, tt)
  write_leads (Some h) reply w' plain (s, may, er, ew) =
      subst Leads (λ i. (sym er i, sym ew i))
      ((λ q l there. absurd (nobody Write plain (λ r f. absurd (cc)) q l there)), tt)

  start_leads : (r : ℕ) (k : K) (found : Option (PendingLookup K)) → get w.lookups r ≡ found
      → IsPlainEvent w (Start r k) → Leads (start_done w r k found)
  start_leads r k (Some l) e plain = absurd (nobody (Start r k) plain (λ q f. absurd (cc)) r l e)
  start_leads r k None e plain = (
    set r _ (record {
      rest = at_rest w.latch.pending plain.writer;
      going = none_loaded o n w.latch.words _ refl;
      stand = tt;
      first = refl;
      few = omega arith;
    }),
    tt,
  )
    where
      at_rest : (h : Option PendingUpdate) → (is_some h ≡ true → Start r k ≡ Write) → h ≡ None
      at_rest None f = refl
      at_rest (Some h) f = let g : Start r k ≡ Write = f refl in absurd (cc)

  -- what the lookup returns is of the table after all of the updates
  exact : (r : ℕ) (l : PendingLookup K) (is : IsAlone o n w.latch l)
      → Stand w.latch.words (attempt o n l.key) (l.values ++ at w.latch.words is.going.word ∷ [])
      → IsLookAfter o start us
      (return_of w r l (look o l.key (current_table o start us w.latch.words))
      (generation_of (at w.latch.words 0)))
  exact r l is st =
      let m = w.latch.words in
      let ts = ok.tables (generation_of (at m 0) - generation_of start) in
      let all : current_table o start us m ≡ replay o [] us =
      current_at_rest o n start us w.latch ok is.rest in
      let seq : at m 0 ≡ start + 2 * length us =
      subst (IsPendingOf o start (at m 0) us) is.rest ok.in_hand in
      let even : start % 2 ≡ 0 = ok.even in
      let bound : length (l.values ++ at m is.going.word ∷ [])
      ≤ 4 * length (current_table o start us m) + 3 = attempt_loads o law m n l.key
      (current_table o start us m) ok.current.0 ok.current.1 ts.0 ts.1 _ st in
      let count = length-append l.values (at m is.going.word ∷ []) in
      let few = is.few in
      let sizes = ap length all in
      record {
        answer = ap (look o l.key) all;
        generation = omega arith;
        attempts = is.first;
        loads = omega arith;
      }

  read_leads : (r : ℕ) (found : Option (PendingLookup K)) → get w.lookups r ≡ found
      → Leads (read_done o n w r found)
  read_leads r None e = (alone, tt)
  read_leads r (Some l) e =
      let is = alone r l e in
      let m = w.latch.words in
      let ts = ok.tables (generation_of (at m 0) - generation_of start) in
      by_load o law n m (current_table o start us m) ok.current.0 ok.current.1 ts.0 ts.1 w refl r l
      is.going (λ x. Leads (load_done w r x))
      (λ going push.
      let count = length-append l.values (at m is.going.word ∷ []) in
      let few = is.few in (
        set r _ (record {
          rest = is.rest;
          going = going;
          stand = push is.stand;
          first = is.first;
          few = omega arith;
        }),
        tt,
      ))
      (λ moved. absurd (moved is.stand))
      (λ st. (gone r, exact r l is st))

  step_exact : (limit : ℕ) (e : Event K) (reply : Reply K) (w' : Moment K)
      → Step (machine o n limit) w e reply w' → IsPlainEvent w e → Leads (reply, w')
  step_exact limit (Begin u) reply w' s plain = begin_leads u _ reply w' plain s
  step_exact limit Write reply w' s plain = write_leads w.latch.pending reply w' plain s
  step_exact limit (Start r k) reply w' s plain =
      subst Leads s (start_leads r k (get w.lookups r) refl plain)
  step_exact limit (Read r) reply w' s plain = subst Leads s (read_leads r (get w.lookups r) refl)

exact_run : {K : Type 0} (o : Order K) → IsLawful o → (n limit start : ℕ) (us : List Update)
    (w : Moment K) (run : List (Done K)) → IsSound o n start us w.latch → AreAlone o n w
    → Run (machine o n limit) w run → IsPlain w run → AreLooksAfter o start us run
exact_run o law n limit start us w [] ok alone steps plain = tt
exact_run o law n limit start us w (d ∷ run) ok alone steps plain =
    let leads =
    step_exact o law n start us w ok alone limit d.event d.reply d.after steps.0 plain.0 in
    let ok' = step_sound o n start us w ok law limit d.event d.reply d.after steps.0 in (
      leads.1,
      exact_run o law n limit start (us ++ accepted d.event d.reply) d.after run ok' leads.0 steps.1
          plain.1,
    )

-- every plain run from the opening is exact
pub exact_where_plain : {K : Type 0} (o : Order K) → IsLawful o → (n limit start : ℕ)
    (run : List (Done K)) → stable_copy_of start ≡ 0 → Run (machine o n limit) (opening n start) run
    → IsPlain (opening n start) run → AreLooksAfter o start [] run
exact_where_plain {K = K} o law n limit start run even steps plain =
    let w0 : Moment K = opening n start in
    exact_run o law n limit start [] w0 run (sound_opening {K = K} o n start even)
    (λ q l there. (let no : get w0.lookups q ≡ None = get-empty nat_cmp q in absurd (cc))) steps
    plain

-- a writer step or a load leaves nothing pending that is not its own
module _ {K : Type 0} (o : Order K) (n limit : ℕ) where
  writes_plain : (w : Moment K) (pending : Option PendingUpdate) (reply : Reply K) (w' : Moment K)
      → IsWrite n w pending reply w' → IsPlainEvent w Write → IsPlainEvent w' Write
  writes_plain w None reply w' (er, ew) plain = subst (λ v. IsPlainEvent v Write) (sym ew)
      (record { writer = λ e. refl; readers = plain.readers })
  writes_plain w (Some h) reply w' (s, may, er, ew) plain = subst (λ v. IsPlainEvent v Write)
      (sym ew) (record { writer = λ e. refl; readers = plain.readers })

  module _ (w : Moment K) (r : ℕ) (plain : IsPlainEvent w (Read r)) where
    other_lookups : (w' : Moment K) → w'.latch ≡ w.latch
        → ((q : ℕ) → q ≢ r → get w'.lookups q ≡ get w.lookups q) → IsPlainEvent w' (Read r)
    other_lookups w' el others =
        record {
          writer = λ e. plain.writer (sym (ap (λ (l : Latch). is_some l.pending) el) ∙ e);
          readers = λ q e. ⊎_elim (λ same. ap Read (sym same))
              (λ ne. plain.readers q (sym (ap is_some (others q ne)) ∙ e)) (cases_eq q r);
        }

    read_plain : (found : Option (PendingLookup K))
        → IsPlainEvent (read_done o n w r found).1 (Read r)
    read_plain found = let d = (read_reads r o n w found).differs in
        other_lookups _ d.latch d.others

  step_plain_write : (w : Moment K) (d : Done K) → d.event ≡ Write
      → Step (machine o n limit) w d.event d.reply d.after → IsPlainEvent w Write
      → IsPlainEvent d.after Write
  step_plain_write w d same step plain =
      writes_plain w w.latch.pending d.reply d.after
      (subst (λ e. Step (machine o n limit) w e d.reply d.after) same step) plain

  step_plain_read : (r : ℕ) (w : Moment K) (d : Done K) → d.event ≡ Read r
      → Step (machine o n limit) w d.event d.reply d.after → IsPlainEvent w (Read r)
      → IsPlainEvent d.after (Read r)
  step_plain_read r w d same step plain =
      let s : read_done o n w r (get w.lookups r) ≡ (d.reply, d.after) =
      subst (λ e. Step (machine o n limit) w e d.reply d.after) same step in
      subst (λ (done : Reply K × Moment K). IsPlainEvent done.1 (Read r)) s
      (read_plain w r plain (get w.lookups r))

  -- a command's part of the run, where nothing else is pending before it
  repeats_plain : (c : Command K)
      → ((w : Moment K) (d : Done K) → d.event ≡ event_of c → Step (machine o n limit) w d.event
      d.reply d.after → IsPlainEvent w (event_of c) → IsPlainEvent d.after (event_of c))
      → (w : Moment K) (most : ℕ) (run : List (Done K)) → Run (machine o n limit) w run
      → Repeats c most run → IsPlainEvent w (event_of c) → IsPlain w run
  repeats_plain c keeps w most [] steps again plain = tt
  repeats_plain c keeps w most (d ∷ run) steps again plain = (
    subst (IsPlainEvent w) (sym again.1) plain,
    repeats_plain c keeps d.after _ run steps.1 again.2 (keeps w d again.1 steps.0 plain),
  )

  -- and a command of one event
  once_plain : (c : Command K) (w : Moment K) (run : List (Done K)) → Repeats c 1 run
      → IsPlainEvent w (event_of c) → IsPlain w run
  once_plain c w [] again plain = tt
  once_plain c w (d ∷ []) again plain = (subst (IsPlainEvent w) (sym again.1) plain, tt)
  once_plain c w (d ∷ d' ∷ run) again plain = absurd (none_left (ends c d.reply d.after) again.2.0)
    where
      none_left : (b : Bool) → 0 < cond b 0 (1 - 1) → ⊥
      none_left true lt = omega arith
      none_left false lt = omega arith

  part_plain : (c : Command K) (w : Moment K) (run : List (Done K)) → Run (machine o n limit) w run
      → Repeats c (most_of w c) run → IsPlainEvent w (event_of c) → IsPlain w run
  part_plain (BeginCommand u) w run steps again plain =
      once_plain (BeginCommand u) w run again plain
  part_plain (WriteCommand most) w run steps again plain =
      repeats_plain (WriteCommand most) step_plain_write w _ run steps again plain
  part_plain WriteFlip w run steps again plain =
      repeats_plain WriteFlip step_plain_write w _ run steps again plain
  part_plain WriteEnd w run steps again plain =
      repeats_plain WriteEnd step_plain_write w _ run steps again plain
  part_plain (StartCommand r k) w run steps again plain =
      once_plain (StartCommand r k) w run again plain
  part_plain (ReadCommand r most) w run steps again plain =
      repeats_plain (ReadCommand r most) (step_plain_read r) w _ run steps again plain

  -- one part after another
  plain_append : (w : Moment K) (run next : List (Done K)) → IsPlain w run
      → IsPlain (last_of w run) next
      → IsPlain w (run ++ next)
  plain_append w [] next a b = b
  plain_append w (d ∷ run) next a b = (a.0, plain_append d.after run next a.1 b)

  run_parts : (w : Moment K) (run next : List (Done K)) → Run (machine o n limit) w (run ++ next)
      → Run (machine o n limit) w run × Run (machine o n limit) (last_of w run) next
  run_parts w [] next steps = (tt, steps)
  run_parts w (d ∷ run) next steps = let rest = run_parts d.after run next steps.1 in
      ((steps.0, rest.0), rest.1)

  -- plain commands make a plain run
  pub commands_plain : (cs : List (Command K)) (w : Moment K) (run : List (Done K))
      → Run (machine o n limit) w run → ArePlain w cs run → IsPlain w run
  commands_plain [] w run steps plain = subst (IsPlain w) (sym plain) tt
  commands_plain (c ∷ cs) w run steps plain =
      let h = plain.1 in
      let parts = run_parts w h.part h.rest (subst (Run (machine o n limit) w) h.whole steps) in
      subst (IsPlain w) (sym h.whole)
      (plain_append w h.part h.rest (part_plain c w h.part parts.0 h.repeats plain.0)
      (commands_plain cs (last_of w h.part) h.rest parts.1 h.goes_on))
