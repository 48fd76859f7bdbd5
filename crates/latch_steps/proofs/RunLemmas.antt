-- What events do to the latch and to the count of events, runs one after another, and the events
-- that a command repeats. Each accepted update is the last of the history, and each flip adds one
-- to the sequence.
use Rattle.latch_steps.proofs.Definitions.{◌≡◌, ℕ, suc, zero, ◌+◌, ◌-◌, ◌<◌, ◌≤◌, Bool, false, cond}
use Rattle.latch_steps.proofs.Definitions.{List, [], ◌∷◌, ◌++◌, length, take, drop, Option, Some}
use Rattle.latch_steps.proofs.Definitions.{None, refl, sym, ◌∙◌, ap, subst, inl, ⊎_elim, arith}
use Rattle.latch_steps.proofs.Definitions.{append-nil, ◌^◌, true, append_assoc, ◌==◌, is_some}
use Rattle.latch_steps.proofs.Definitions.{count_by, min, get, eq-eqb, ne_eqb, drop-take, take-take}
use Rattle.latch_steps.proofs.Definitions.{Store, Update, Refusal, Event, Begin, Write, Start, Read}
use Rattle.latch_steps.proofs.Definitions.{Reply, Begun, Wrote, Order, IsLawful, at, words_after}
use Rattle.latch_steps.proofs.Definitions.{refusal_for, PendingUpdate, Latch, IsWriterStep, IsSound}
use Rattle.latch_steps.proofs.Definitions.{hidden_same, sound_step, sound_begin, PendingLookup}
use Rattle.latch_steps.proofs.Definitions.{Moment, Done, accepted, moment_at, opening, last_of}
use Rattle.latch_steps.proofs.Definitions.{machine, IsBegin, IsWrite, AfterLoad, Goes, Retries}
use Rattle.latch_steps.proofs.Definitions.{Returns, after_load, start_done, load_done, read_done}
use Rattle.latch_steps.proofs.Definitions.{Step, Run, counted_up, is_step, is_flip, flips_between}
use Rattle.latch_steps.proofs.Definitions.{capacity_of, IsShallow, stays_now, Command, World}
use Rattle.latch_steps.proofs.Definitions.{event_of, most_of, writes_within, ends, Repeats, Expand}
use Rattle.latch_steps.proofs.Definitions.{AreShallow, events_of, note_of, notes_of}
use Rattle.latch_steps.proofs.Definitions.{RepresentsMoment, layout_in, Does, MayDo, IsWorldStep}
use Rattle.latch_steps.proofs.Definitions.{is_refused_for_memory}
use Rattle.std.proofs.lemmas.List.Sums.{sum_by-append, sum_by-take-drop}
use Rattle.word_layout.proofs.HoldsLemmas.{flip_adds}
use Rattle.std.proofs.lemmas.List.Elements.{filter_map-append}
use Rattle.latch_steps.specs.declared.commands.Command.TheVariants.{Read as ReadCommand}

-- a reply that is no step of the writer, and a moment with the same latch, one event later
abbrev pub KeepsLatch : {K : Type 0} → Moment K → Reply K × Moment K → Type 0
KeepsLatch w done =
    (done.1.latch ≡ w.latch) × (is_step done.0 ≡ false) × (done.1.events ≡ counted_up w.events)

module _ {K : Type 0} where
  -- neither a load nor a start changes the latch, and neither is a step of the writer
  load_keeps : (w : Moment K) (r : ℕ) (x : AfterLoad K) → KeepsLatch w (load_done w r x)
  load_keeps w r (Goes l) = (refl, refl, refl)
  load_keeps w r (Retries l) = (refl, refl, refl)
  load_keeps w r (Returns x) = (refl, refl, refl)

  pub read_keeps : (o : Order K) (n : ℕ) (w : Moment K) (r : ℕ) (found : Option (PendingLookup K))
      → KeepsLatch w (read_done o n w r found)
  read_keeps o n w r None = (refl, refl, refl)
  read_keeps o n w r (Some l) = load_keeps w r (after_load o n w r l)

  pub start_keeps : (w : Moment K) (r : ℕ) (k : K) (found : Option (PendingLookup K))
      → KeepsLatch w (start_done w r k found)
  start_keeps w r k (Some l) = (refl, refl, refl)
  start_keeps w r k None = (refl, refl, refl)

  no_flip : (reply : Reply K) → is_step reply ≡ false → is_flip reply ≡ false
  no_flip (Wrote s) e = absurd (cc)
  no_flip _ e = refl

-- one event keeps the latch sound
module _ {K : Type 0} (o : Order K) (n start : ℕ) (us : List Update) (w : Moment K)
    (ok : IsSound o n start us w.latch) where
  kept : (w' : Moment K) → w'.latch ≡ w.latch → IsSound o n start (us ++ []) w'.latch
  kept w' e = subst (λ vs. IsSound o n start vs w'.latch) (sym (append-nil us))
      (subst (IsSound o n start us) (sym e) ok)

  writes_sound : (pending : Option PendingUpdate) → w.latch.pending ≡ pending
      → (reply : Reply K) (w' : Moment K)
      → IsWrite n w pending reply w' → IsSound o n start (us ++ []) w'.latch
  writes_sound None e reply w' (er, ew) = kept w' (ap (λ v. v.latch) ew)
  writes_sound (Some h) e reply w' (s, may, er, ew) =
      subst (λ vs. IsSound o n start vs w'.latch) (sym (append-nil us))
      (subst (IsSound o n start us) (sym (ap (λ (v : Moment K). v.latch) ew))
      (sound_step o n start us w.latch h s ok e may))

  begins_sound : IsLawful o → (limit : ℕ) (u : Update) (why : Option Refusal)
      → refusal_for o n limit (is_some w.latch.pending) w.latch.newest_table (at w.latch.words 0) u
      ≡ why
      → (reply : Reply K) (w' : Moment K) → IsBegin o n w u why reply w'
      → IsSound o n start (us ++ accepted (Begin u) reply) w'.latch
  begins_sound law limit u (Some why) e reply w' (er, ew) =
      subst (λ r. IsSound o n start (us ++ accepted (Begin u) r) w'.latch) (sym er)
      (kept w' (ap (λ v. v.latch) ew))
  begins_sound law limit u None e reply w' (left, some, bound, er, ew) =
      let free : w.latch.pending ≡ None = at_rest w.latch.pending e in
      let accepts : refusal_for o n limit false w.latch.newest_table (at w.latch.words 0) u ≡ None =
      subst (λ h. refusal_for o n limit (is_some h) w.latch.newest_table (at w.latch.words 0) u
      ≡ None) free e in
      subst (λ r. IsSound o n start (us ++ accepted (Begin u) r) w'.latch) (sym er)
      (subst (IsSound o n start (us ++ u ∷ [])) (sym (ap (λ (v : Moment K). v.latch) ew))
      (sound_begin o law n limit start us w.latch u left ok free accepts))
    where
      at_rest : (h : Option PendingUpdate)
          → refusal_for o n limit (is_some h) w.latch.newest_table (at w.latch.words 0) u ≡ None
          → h ≡ None
      at_rest None e = refl
      at_rest (Some h) e = absurd (cc)

  pub step_sound : IsLawful o → (limit : ℕ) (e : Event K) (reply : Reply K) (w' : Moment K)
      → Step (machine o n limit) w e reply w' → IsSound o n start (us ++ accepted e reply) w'.latch
  step_sound law limit (Begin u) reply w' s = begins_sound law limit u _ refl reply w' s
  step_sound law limit Write reply w' s = writes_sound w.latch.pending refl reply w' s
  step_sound law limit (Start r k) reply w' s =
      kept w' (subst (KeepsLatch w) s (start_keeps w r k (get w.lookups r))).0
  step_sound law limit (Read r) reply w' s =
      kept w' (subst (KeepsLatch w) s (read_keeps o n w r (get w.lookups r))).0

-- one event adds its flips to the sequence
abbrev pub Adds : {K : Type 0} → Moment K → Reply K → Moment K → Type 0
Adds w reply w' = at w'.latch.words 0 ≡ at w.latch.words 0 + cond (is_flip reply) 1 0

module _ {K : Type 0} (n : ℕ) (w : Moment K) (sized : 0 < length w.latch.words) where
  same : (reply : Reply K) (w' : Moment K) → w'.latch ≡ w.latch → is_flip reply ≡ false
      → Adds w reply w'
  same reply w' el ef =
      let e : at w'.latch.words 0 ≡ at w.latch.words 0 = ap (λ (l : Latch). at l.words 0) el in
      subst (λ b. at w'.latch.words 0 ≡ at w.latch.words 0 + cond b 1 0) (sym ef)
      (let f : at w'.latch.words 0 ≡ at w.latch.words 0 + 0 = omega arith in f)

  keeps_adds : (reply : Reply K) (w' : Moment K) → KeepsLatch w (reply, w') → Adds w reply w'
  keeps_adds reply w' k = same reply w' k.0 (no_flip reply k.1)

  stepped_adds : (h : PendingUpdate) (s : Store) → IsWriterStep n w.latch h s
      → at (words_after w.latch.words s) 0 ≡ at w.latch.words 0 + cond (s.word == 0) 1 0
  stepped_adds h s may =
      ⊎_elim
      (λ hid.
      let e : at (words_after w.latch.words s) 0 ≡ at w.latch.words 0 =
      hidden_same n w.latch.words h.old_words s hid 0 (inl refl) in
      rw (ne_eqb s.word 0 hid.not_sequence)
      (let f : at (words_after w.latch.words s) 0 ≡ at w.latch.words 0 + 0 = omega arith in f))
      (⊎_elim
      (λ flip. rw (eq-eqb s.word 0 flip.sequence)
      (flip_adds w.latch.words s sized flip.sequence flip.adds_one))
      (λ flip. rw (eq-eqb s.word 0 flip.sequence)
      (flip_adds w.latch.words s sized flip.sequence flip.adds_one)))
      may.kind

  writes_adds : (pending : Option PendingUpdate) (reply : Reply K) (w' : Moment K)
      → IsWrite n w pending reply w'
      → Adds w reply w'
  writes_adds None reply w' (er, ew) = same reply w' (ap (λ v. v.latch) ew) (ap is_flip er)
  writes_adds (Some h) reply w' (s, may, er, ew) =
      subst (λ r. Adds w r w') (sym er)
      (subst (λ v. Adds w (Wrote s) v) (sym ew) (stepped_adds h s may))

  begins_adds : (o : Order K) (u : Update) (why : Option Refusal) (reply : Reply K) (w' : Moment K)
      → IsBegin o n w u why reply w' → Adds w reply w'
  begins_adds o u (Some why) reply w' (er, ew) =
      same reply w' (ap (λ v. v.latch) ew) (ap is_flip er)
  begins_adds o u None reply w' (left, some, bound, er, ew) =
      subst (λ r. Adds w r w') (sym er) (subst (λ v. Adds w (Begun left) v) (sym ew)
      (let e : at w.latch.words 0 ≡ at w.latch.words 0 + 0 = omega arith in e))

  step_adds : (o : Order K) (limit : ℕ) (e : Event K) (reply : Reply K) (w' : Moment K)
      → Step (machine o n limit) w e reply w' → Adds w reply w'
  step_adds o limit (Begin u) reply w' s = begins_adds o u _ reply w' s
  step_adds o limit Write reply w' s = writes_adds _ reply w' s
  step_adds o limit (Start r k) reply w' s =
      keeps_adds reply w' (subst (KeepsLatch w) s (start_keeps w r k (get w.lookups r)))
  step_adds o limit (Read r) reply w' s =
      keeps_adds reply w' (subst (KeepsLatch w) s (read_keeps o n w r (get w.lookups r)))

-- the sequence at a moment of a run counts the flips before it
abbrev pub sequence_at : {K : Type 0} → Moment K → List (Done K) → ℕ → ℕ
sequence_at w run i = at (moment_at w run i).latch.words 0

abbrev flips : {K : Type 0} → Done K → Bool
flips d = is_flip d.reply

flips_upto : {K : Type 0} (o : Order K) → IsLawful o → (n limit start : ℕ) (us : List Update)
    (w : Moment K) (run : List (Done K)) → IsSound o n start us w.latch
    → Run (machine o n limit) w run
    → (i : ℕ) → i ≤ length run
    → sequence_at w run i ≡ at w.latch.words 0 + count_by flips (take i run)
flips_upto o law n limit start us w run ok steps zero within = omega arith
flips_upto o law n limit start us w [] ok steps (suc i) within = absurd (omega arith)
flips_upto o law n limit start us w (d ∷ run) ok steps (suc i) within =
    let one : at d.after.latch.words 0 ≡ at w.latch.words 0 + cond (flips d) 1 0 =
    step_adds n w ok.sized o limit d.event d.reply d.after steps.0 in
    let rest = flips_upto o law n limit start (us ++ accepted d.event d.reply) d.after run
    (step_sound o n start us w ok law limit d.event d.reply d.after steps.0) steps.1 i
    (omega arith) in
    let count : count_by flips (take (suc i) (d ∷ run))
    ≡ cond (flips d) 1 0 + count_by flips (take i run) =
    sum_by-append (λ x. cond (flips x) 1 0) (d ∷ []) (take i run)
    ∙ (let f : 0 + cond (flips d) 1 0 ≡ cond (flips d) 1 0 = omega arith in
    ap (λ j. j + count_by flips (take i run)) f) in
    omega arith

count_between : {K : Type 0} (run : List (Done K)) (i m : ℕ)
    → count_by flips (take (i + m) run)
    ≡ count_by flips (take i run) + count_by flips (take m (drop i run))
count_between run i m =
    let f = λ (d : Done _). cond (flips d) 1 0 in
    let parts = sum_by-take-drop f (take (i + m) run) i in
    let back = drop-take i m run in
    let front : take i (take (i + m) run) ≡ take i run = take-take i (i + m) run (omega arith) in
    sym parts ∙ (λ j. count_by flips (front j) + count_by flips (back j))

-- between two moments of a run
pub flips_counted : {K : Type 0} (o : Order K) → IsLawful o → (n limit start : ℕ) (us : List Update)
    (w : Moment K) (run : List (Done K)) → IsSound o n start us w.latch
    → Run (machine o n limit) w run
    → (i j : ℕ) → i ≤ j → j ≤ length run
    → sequence_at w run j ≡ sequence_at w run i + flips_between run i j
flips_counted o law n limit start us w run ok steps i j le within =
    let at_i = flips_upto o law n limit start us w run ok steps i (omega arith) in
    let at_j = flips_upto o law n limit start us w run ok steps j within in
    let split : i + (j - i) ≡ j = omega arith in
    let parts = subst (λ p. count_by flips (take p run) ≡ count_by flips (take i run)
    + flips_between run i j) split (count_between run i (j - i)) in
    omega arith

module _ {K : Type 0} (o : Order K) (n limit : ℕ) where
  begin_counts : (w w' : Moment K) (u : Update) (why : Option Refusal) (reply : Reply K)
      → IsBegin o n w u why reply w' → w'.events ≡ counted_up w.events
  begin_counts w w' u (Some why) reply (er, ew) = ap (λ v. v.events) ew
  begin_counts w w' u None reply (left, some, most, er, ew) = ap (λ v. v.events) ew

  write_counts : (w w' : Moment K) (pending : Option PendingUpdate) (reply : Reply K)
      → IsWrite n w pending reply w' → w'.events ≡ counted_up w.events
  write_counts w w' None reply (er, ew) = ap (λ v. v.events) ew
  write_counts w w' (Some h) reply (s, may, er, ew) = ap (λ v. v.events) ew

  pub step_counts : (w w' : Moment K) (e : Event K) (reply : Reply K)
      → Step (machine o n limit) w e reply w' → w'.events ≡ counted_up w.events
  step_counts w w' (Begin u) reply s = begin_counts w w' u
      (refusal_for o n limit (is_some w.latch.pending) w.latch.newest_table (at w.latch.words 0) u)
      reply s
  step_counts w w' Write reply s = write_counts w w' w.latch.pending reply s
  step_counts w w' (Start r k) reply s =
      (subst (KeepsLatch w) s (start_keeps w r k (get w.lookups r))).2
  step_counts w w' (Read r) reply s =
      (subst (KeepsLatch w) s (read_keeps o n w r (get w.lookups r))).2

  run_counts : (run : List (Done K)) (w : Moment K) → Run (machine o n limit) w run
      → (last_of w run).events < 2 ^ 64 - 1 → w.events + length run ≡ (last_of w run).events
  run_counts [] w steps below = omega arith
  run_counts (d ∷ run) w steps below =
      let one : d.after.events ≡ min (w.events + 1) 18446744073709551615 =
      step_counts w d.after d.event d.reply steps.0 in
      let rest = run_counts run d.after steps.1 below in
      omega arith

-- a run whose count is below the greatest has as many events
pub few_counted : {K : Type 0} (o : Order K) (n limit start : ℕ) (run : List (Done K))
    → Run (machine o n limit) (opening n start) run
    → (last_of (opening n start) run).events < 2 ^ 64 - 1 → length run < 2 ^ 64
few_counted {K = K} o n limit start run steps below =
    let w0 : Moment K = opening n start in
    let exact = run_counts o n limit run w0 steps below in
    omega arith

module _ {K : Type 0} where
  pub last_append : (w : Moment K) (run next : List (Done K))
      → last_of w (run ++ next) ≡ last_of (last_of w run) next
  last_append w [] next = refl
  last_append w (d ∷ run) next = last_append d.after run next

  pub run_append : (o : Order K) (n limit : ℕ) (w : Moment K) (run next : List (Done K))
      → Run (machine o n limit) w run → Run (machine o n limit) (last_of w run) next
      → Run (machine o n limit) w (run ++ next)
  run_append o n limit w [] next a b = b
  run_append o n limit w (d ∷ run) next a b = (a.0, run_append o n limit d.after run next a.1 b)

  pub events_append : (run next : List (Done K))
      → events_of (run ++ next) ≡ events_of run ++ events_of next
  events_append [] next = refl
  events_append (d ∷ run) next = ap (λ es. d.event ∷ es) (events_append run next)

  pub events_length : (run : List (Done K)) → length (events_of run) ≡ length run
  events_length [] = refl
  events_length (d ∷ run) = omega (arith, events_length run)

  pub notes_append : (run next : List (Done K))
      → notes_of (run ++ next) ≡ notes_of run ++ notes_of next
  notes_append run next = filter_map-append (λ (d : Done K). note_of d.reply) run next

-- red-black trees at the moments of a run
module _ {K : Type 0} where
  pub shallow_append : (n : ℕ) (run next : List (Done K)) → AreShallow n run → AreShallow n next
      → AreShallow n (run ++ next)
  shallow_append n [] next a b = b
  shallow_append n (d ∷ run) next a b = (a.0, shallow_append n run next a.1 b)

  -- loads leave the words as they are
  pub reads_shallow : (o : Order K) (n limit r most : ℕ) (run : List (Done K)) (w : Moment K)
      (left : ℕ) → Run (machine o n limit) w run → Repeats (ReadCommand r most) left run
      → IsShallow n w.latch.words → AreShallow n run
  reads_shallow o n limit r most [] w left steps again low = tt
  reads_shallow o n limit r most (d ∷ run) w left steps again low =
      let read : read_done o n w r (get w.lookups r) ≡ (d.reply, d.after) =
      subst (λ e. Step (machine o n limit) w e d.reply d.after) again.1 steps.0 in
      let keeps = subst (KeepsLatch w) read (read_keeps o n w r (get w.lookups r)) in
      let low' : IsShallow n d.after.latch.words =
      subst (λ (l : Latch). IsShallow n l.words) (sym keeps.0) low in
      (low', reads_shallow o n limit r most run d.after _ steps.1 again.2 low')

-- a moment that a world shows has its stable copy in a red-black tree
pub shows_shallow : {O K : Type 0} {o : Order K} (c : World O K) (w : Moment K)
    → RepresentsMoment o c w → IsShallow (capacity_of (layout_in c)) w.latch.words
shows_shallow c w s = subst (λ n. IsShallow n w.latch.words) s.capacity
    (stays_now c.writer.capacity w.latch.words c.writer.stores_left s.writer.shallow)

-- an event that is not given up
module _ {O K : Type 0} (o : Order K) where
  may_does : (old new : World O K) (e : Event K) (r : Reply K) → MayDo o old e r new
      → is_refused_for_memory r ≡ false → Does o old e r new
  may_does old new e r may stays = ⊎_elim (λ d. d) (λ up. let f : is_refused_for_memory r ≡ true =
      ap is_refused_for_memory up.0 in absurd (cc)) may

  pub does : (old new : World O K) (e : Event K) (r : Reply K) → IsWorldStep o old e r new
      → is_refused_for_memory r ≡ false → Does o old e r new
  does old new (Begin u) r s stays = may_does old new (Begin u) r s stays
  does old new Write r s stays = s
  does old new (Start q k) r s stays = may_does old new (Start q k) r s stays
  does old new (Read q) r s stays = s

-- a command's event some times, none of which ends it
module _ {K : Type 0} (c : Command K) where
  abbrev pub IsUnended : List (Done K) → Type 0
  IsUnended [] = Unit {0}
  IsUnended (d ∷ run) = (d.event ≡ event_of c) × (ends c d.reply d.after ≡ false) × IsUnended run

  pub unended_push : (run : List (Done K)) (d : Done K) → IsUnended run → d.event ≡ event_of c
      → ends c d.reply d.after ≡ false → IsUnended (run ++ d ∷ [])
  unended_push [] d h same e = (same, e, tt)
  unended_push (x ∷ run) d h same e = (h.0, h.1, unended_push run d h.2 same e)

  -- and then the rest
  pub repeats_on : (run : List (Done K)) (most left : ℕ) (next : List (Done K)) → IsUnended run
      → most ≡ length run + left → Repeats c left next → Repeats c most (run ++ next)
  repeats_on [] most left next h e k =
      subst (λ m. Repeats c m next) (let f : left ≡ most = omega arith in f) k
  repeats_on (d ∷ run) most left next h e k = (
    omega arith,
    h.0,
    subst (λ b. Repeats c (cond b 0 (most - 1)) (run ++ next)) (sym h.1)
        (repeats_on run (most - 1) left next h.2 (omega arith) k),
  )

  pub repeats_full : (run : List (Done K)) (most : ℕ) → IsUnended run → length run ≡ most
      → Repeats c most run
  repeats_full run most h e =
      subst (Repeats c most) (append-nil run) (repeats_on run most 0 [] h (omega arith) refl)

  pub repeats_ended : (run : List (Done K)) (most : ℕ) (d : Done K) → IsUnended run → length run
      < most → d.event ≡ event_of c → ends c d.reply d.after ≡ true → Repeats c most (run ++ d ∷ [])
  repeats_ended run most d h lt same e =
      repeats_on run most (most - length run) (d ∷ []) h (omega arith)
      (omega arith, same, subst (λ b. cond b 0 (most - length run - 1) ≡ 0) (sym e) refl)

-- one command more
module _ {K : Type 0} where
  pub expand_push : (w : Moment K) (cs : List (Command K)) (c : Command K)
      (run next : List (Done K)) → Expand w cs run → Repeats c (most_of (last_of w run) c) next
      → Expand w (cs ++ c ∷ []) (run ++ next)
  expand_push w [] c run next e h =
      record {
        part = next;
        rest = [];
        whole = ap (λ xs. xs ++ next) e ∙ sym (append-nil next);
        repeats = subst (λ xs. Repeats c (most_of (last_of w xs) c) next) e h;
        goes_on = refl;
      }
  expand_push w (d ∷ cs) c run next e h =
      let there : last_of w run ≡ last_of (last_of w e.part) e.rest =
      ap (last_of w) e.whole ∙ last_append w e.part e.rest in
      record {
        part = e.part;
        rest = e.rest ++ next;
        whole = ap (λ xs. xs ++ next) e.whole ∙ append_assoc e.part e.rest next;
        repeats = e.repeats;
        goes_on = expand_push (last_of w e.part) cs c e.rest next e.goes_on
            (subst (λ v. Repeats c (most_of v c) next) there h);
      }

-- with a pending update the writer makes as many steps as it is asked for, and with none it makes
-- none
pub within_is : (h : Option PendingUpdate) (most : ℕ)
    → cond (is_some h) most 0 ≡ writes_within h most
within_is None most = refl
within_is (Some h) most = refl
