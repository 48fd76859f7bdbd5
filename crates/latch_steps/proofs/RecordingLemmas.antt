-- What is kept of the events of a run that is recorded, what is promised of its trace, and a driver
-- that goes on by a command.
use Rattle.latch_steps.proofs.Definitions.{◌≡◌, ℕ, ◌+◌, ◌^◌, ◌<◌, Bool, true, false, List, [], ◌∷◌}
use Rattle.latch_steps.proofs.Definitions.{◌++◌, length, refl, sym, ◌∙◌, ap, subst, arith}
use Rattle.latch_steps.proofs.Definitions.{append_assoc, append-nil, take, get_or, Order, IsLawful}
use Rattle.latch_steps.proofs.Definitions.{capacity_of, limit_of, World, IsEmpty, IsWhole, Keeps}
use Rattle.latch_steps.proofs.Definitions.{AreWhole, AreReported, IsReportedRun, ObeysFromAny}
use Rattle.latch_steps.proofs.Definitions.{Moment, Done, opening, last_of, machine_of, Run}
use Rattle.latch_steps.proofs.Definitions.{IsTraceOf, kept, events_of, notes_of, layout_in}
use Rattle.latch_steps.proofs.Definitions.{RepresentsMoment, take_push, MayOpen, Command, Event}
use Rattle.latch_steps.proofs.Definitions.{Outcome, AreShallow, Expand}
use Rattle.word_layout.specs.declared.layouts.Layout.{Layout}
use Rattle.latch_steps.specs.declared.traces.Recording.{Recording}
use Rattle.latch_steps.specs.declared.traces.Trace.{Trace}
use Rattle.latch_steps.proofs.RunLemmas.{events_length, notes_append, expand_push, last_append}
use Rattle.latch_steps.proofs.RunLemmas.{run_append, shallow_append, few_counted}
use Rattle.latch_steps.specs.Promises.{IsSafeTrace, IsQuietTrace, IsNearTrace}
use Rattle.latch_steps.proofs.ReportLemmas.{none_reported, runs_reported}
use Rattle.latch_steps.proofs.SafeRunLemmas.{safe}
use Rattle.latch_steps.proofs.QuietRunLemmas.{quiet, near}
use Rattle.latch_steps.specs.declared.drivers.Driver.{Driver}
use Rattle.latch_steps.specs.declared.traces.Notes.{Notes}
use Rattle.latch_steps.specs.Drivers.{HasDriven, DrivesOn, LeavesNotes, notes_in}
use Rattle.latch_steps.proofs.PlainRunLemmas.{exact_where_plain}

-- what is kept of two lists one after another
pub kept_append : {X : Type 0} (keeps : Bool) (xs ys : List X)
    → kept keeps (xs ++ ys) ≡ kept keeps xs ++ kept keeps ys
kept_append true xs ys = refl
kept_append false xs ys = refl

kept_none : {X : Type 0} (keeps : Bool) → kept {X = X} keeps [] ≡ []
kept_none true = refl
kept_none false = refl

-- what was kept of a run whose events were all reported, if memory did not run out
pub all_kept : {K : Type 0} (o : Order K) (n : ℕ) (keeps : Bool) (w : Moment K)
    (run : List (Done K)) (a b : Recording K) → AreReported o n (Keeps keeps) w run a b
    → b.ran_out ≡ false
    → (a.ran_out ≡ false) × (b.events.items ≡ a.events.items ++ kept keeps (events_of run))
    × (b.notes.items ≡ a.notes.items ++ notes_of run)
all_kept o n keeps w [] a b is whole = (
  ap (λ (x : Recording _). x.ran_out) (sym is) ∙ whole,
  ap (λ (x : Recording _). x.events.items) is ∙ sym (append-nil a.events.items)
      ∙ ap (λ es. a.events.items ++ es) (sym (kept_none keeps)),
  ap (λ (x : Recording _). x.notes.items) is ∙ sym (append-nil a.notes.items),
)
all_kept o n keeps w (d ∷ run) a b (mid, one, more) whole =
    let rest = all_kept o n keeps d.after run mid b more whole in
    let here = one rest.0 in (
      here.0,
      rest.1 ∙ ap (λ es. es ++ kept keeps (events_of run)) here.1
          ∙ append_assoc a.events.items (kept keeps (d.event ∷ [])) (kept keeps (events_of run))
          ∙ ap (λ es. a.events.items ++ es)
          (sym (kept_append keeps (d.event ∷ []) (events_of run))),
      rest.2 ∙ ap (λ ns. ns ++ notes_of run) here.2
          ∙ append_assoc a.notes.items (notes_of (d ∷ [])) (notes_of run)
          ∙ ap (λ ns. a.notes.items ++ ns) (sym (notes_append (d ∷ []) run)),
    )

-- from the opening on
pub trace_of : {O K : Type 0} {o : Order K} (l : Layout) (start : ℕ) {old new : World O K}
    {a b : Recording K} {run : List (Done K)} (t : Trace O K) → layout_in old ≡ l → IsEmpty a
    → b.ran_out ≡ false → IsWhole o new b t
    → IsReportedRun o (Keeps true) old new a b (opening (capacity_of l) start) run
    → IsTraceOf o l start t run
trace_of {o = o} l start {old = old} {a = a} {b = b} {run = run} t lay empty sound whole h =
    let all = all_kept o (capacity_of (layout_in old)) true (opening (capacity_of l) start) run a b
    h.reported sound in
    record {
      steps = subst (λ k. Run (machine_of o k) (opening (capacity_of l) start) run) lay h.steps;
      events = whole.events ∙ all.1 ∙ ap (λ xs. xs ++ events_of run) empty.events;
      notes = whole.notes ∙ all.2 ∙ ap (λ xs. xs ++ notes_of run) empty.notes;
      sequence = whole.sequence (last_of (opening (capacity_of l) start) run) h.shows;
    }

-- a trace with so few events is of a run with so few
pub few_done : {O K : Type 0} (o : Order K) (l : Layout) (start : ℕ) (t : Trace O K)
    (run : List (Done K)) → IsTraceOf o l start t run → length t.events.items < 2 ^ 64
    → length run < 2 ^ 64
few_done o l start t run h few = omega (arith, events_length run, ap length h.events)

-- a world did what these commands ask for, and reported it
pub record Obeyed {O K T : Type 0} (o : Order K) (reports : T → Event K → Outcome K → T → Type 0)
    (w : Moment K) (old new : World O K) (a b : T) (commands : List (Command K)) : Type 0 where
  pub run : List (Done K)
  pub reported : IsReportedRun o reports old new a b w run
  pub expands : Expand w commands run

module _ {O K T : Type 0} {o : Order K} {reports : T → Event K → Outcome K → T → Type 0}
    {w : Moment K} {old : World O K} {a : T} where
  pub obeyed_none : RepresentsMoment o old w → Obeyed o reports w old old a a []
  obeyed_none s = record { run = []; reported = none_reported s; expands = refl }

  -- one command more of a list
  pub obeyed_more : {now new : World O K} {b b' : T} (commands : List (Command K)) (i : ℕ)
      {c : Command K}
      → i < length commands → c ≡ get_or commands i c
      → Obeyed o reports w old now a b (take i commands)
      → ObeysFromAny o reports c now new b b'
      → Obeyed o reports w old new a b' (take (i + 1) commands)
  obeyed_more commands i {c = c} there is h obeys =
      let (next, done, repeats) = obeys (last_of w h.run) h.reported.shows in
      let more = expand_push w (take i commands) c h.run next h.expands repeats in
      record {
        run = h.run ++ next;
        reported = runs_reported h.reported done;
        expands = subst (λ cs. Expand w cs (h.run ++ next)) (take_push commands i c there is) more;
      }

module _ {O K : Type 0} {o : Order K} (law : IsLawful o) {l : Layout} {start : ℕ}
    (opened : MayOpen l start) {t : Trace O K} where
  pub safe_trace : length t.events.items < 2 ^ 64 → IsSafeTrace o l start t
  safe_trace few = λ run h.
      safe o law (capacity_of l) (limit_of l) start opened.0 run (few_done o l start t run h few)
      h.steps

  pub quiet_trace : length t.events.items < 2 ^ 64 → IsQuietTrace o l start t
  quiet_trace few = λ run h.
      quiet o law (capacity_of l) (limit_of l) start opened.0 run (few_done o l start t run h few)
      h.steps

  -- the trees were red-black at each moment
  pub near_trace : length t.events.items < 2 ^ 64 → {run : List (Done K)}
      → IsTraceOf o l start t run
      → AreShallow (capacity_of l) run → IsNearTrace o l start t
  near_trace few {run = run} told low = (
    run,
    told,
    near o law (capacity_of l) (limit_of l) start opened.0 run (few_done o l start t run told few)
        told.steps low,
  )

module _ {O K : Type 0} (o : Order K) where
  pub driven_none : (l : Layout) (start : ℕ) (d : Driver O K) → MayOpen l start → layout_in d.world
      ≡ l → RepresentsMoment o d.world (opening (capacity_of l) start) → IsEmpty d.recording
      → HasDriven o l start [] [] d
  driven_none l start d opened lay shows empty = record {
    opened = opened;
    layout = lay;
    run = [];
    steps = tt;
    expands = refl;
    notes = empty.notes;
    shows = shows;
    shallow = tt;
  }

  pub driven_more : (c : Command K) (old new : Driver O K) → new.recording.ran_out ≡ false
      → ObeysFromAny o (Keeps false) c old.world new.world old.recording new.recording
      → DrivesOn o c old new
  driven_more c old new sound obeys = λ l start commands taken h.
      let w0 : Moment K = opening (capacity_of l) start in
      let (next, r, repeats) = obeys (last_of w0 h.run) h.shows in
      let kept = all_kept o (capacity_of (layout_in old.world)) false (last_of w0 h.run) next
      old.recording new.recording r.reported sound in
      record {
        opened = h.opened;
        layout = r.layout ∙ h.layout;
        run = h.run ++ next;
        steps = run_append o (capacity_of l) (limit_of l) w0 h.run next h.steps
            (subst (λ a. Run (machine_of o a) (last_of w0 h.run) next) h.layout r.steps);
        expands = expand_push w0 commands c h.run next h.expands repeats;
        notes = ap (λ xs. taken ++ xs) kept.2
            ∙ sym (append_assoc taken (notes_in old) (notes_of next))
            ∙ ap (λ xs. xs ++ notes_of next) h.notes ∙ sym (notes_append h.run next);
        shows = subst (RepresentsMoment o new.world) (sym (last_append w0 h.run next)) r.shows;
        shallow = shallow_append (capacity_of l) h.run next h.shallow
            (subst (λ a. AreShallow (capacity_of a) next) h.layout r.shallow);
      }

  pub driven_whole : IsLawful o → (d : Driver O K) (t : Notes O K)
      → AreWhole o d.world d.recording t
      → LeavesNotes o d t
  driven_whole law d t whole = λ l start commands taken h.
      let n = capacity_of l in
      let limit = limit_of l in
      let last : Moment K = last_of (opening n start) h.run in
      let few = few_counted o n limit start h.run h.steps (whole.few last h.shows) in
      record {
        run = h.run;
        notes = record {
          steps = h.steps;
          notes = ap (λ xs. taken ++ xs) whole.notes ∙ h.notes;
          sequence = whole.sequence last h.shows;
        };
        expands = h.expands;
        safe = safe o law n limit start h.opened.0 h.run few h.steps;
        quiet = quiet o law n limit start h.opened.0 h.run few h.steps;
        near = near o law n limit start h.opened.0 h.run few h.steps h.shallow;
        plain = exact_where_plain o law n limit start h.run h.opened.0 h.steps;
      }
