-- The text of a trace whose commands are run one after another: of the functions of trace.
use Rattle.command_traces.proofs.Words.{◌≡◌, ℕ, List, [], ◌∷◌, ◌++◌, Result, Ok, sym, ◌∙◌, ap}
use Rattle.command_traces.proofs.Words.{subst, flat_map, append_assoc, append-nil, flat_map-append}
use Rattle.command_traces.proofs.Words.{Order, Layout, capacity_of, limit_of, at, Command, Expand}
use Rattle.command_traces.proofs.Words.{last_of, opening, Run, machine, Header, Output, Says}
use Rattle.command_traces.proofs.Words.{entries_after, nothing_said, then, all_said, none_before}
use Rattle.command_traces.proofs.Words.{one_more, Contents, with_header, end_text, note_text}
use Rattle.command_traces.proofs.Words.{HeaderMayOpen, IsRunText, greatest_of, order_by}
use Rattle.std.proofs.Common.{Option}
use Rattle.latch_steps.specs.declared.drivers.Driver.{Driver}
use Rattle.latch_steps.specs.declared.replies.Note.{Note}
use Rattle.latch_steps.specs.declared.traces.Notes.{Notes}
use Rattle.latch_steps.specs.Drivers.{DrivesOn, IsTakenFrom, LeavesNotes, notes_in}
use Rattle.latch_steps.specs.Promises.{AreNotesOfCommands, IsExactWherePlain}
use Rattle.latch_steps.specs.Safe.{IsSafe}
use Rattle.latch_steps.specs.Traces.{notes_of}
use Rattle.command_traces.specs.Traces.{GathersCommand, GathersLines, HasGathered}

module _ {O W : Type 0} (o : Order ℕ) (contents : W → Option (List ℕ)) where
  -- a command more
  pub command_gathered : (c : Command ℕ) (old mid new : Driver O ℕ) (a b : Output W)
      → DrivesOn o c old mid → IsTakenFrom o mid new → notes_in new ≡ []
      → Says contents a b (flat_map note_text (notes_in mid))
      → GathersCommand o contents c old new a b
  command_gathered c old mid new a b drives taken none said = (
    flat_map note_text (notes_in mid),
    said,
    λ h commands text t. record {
      opens = t.opens;
      layout = t.layout;
      capacity = t.capacity;
      limit = t.limit;
      notes = t.notes ++ notes_in mid;
      driven = taken t.layout h.start (commands ++ c ∷ []) t.notes
          (drives t.layout h.start commands t.notes t.driven);
      none = none;
      gathered = ap (λ xs. xs ++ flat_map note_text (notes_in mid)) t.gathered
          ∙ sym (flat_map-append note_text t.notes (notes_in mid));
    },
  )

  -- The commands so far, and those that the lines say which are left, are those of all lines.
  pub record IsUnderWay (said left : Result (List (Command ℕ)) ℕ) (old now : Driver O ℕ)
      (a b : Output W) : Type 0 where
    pub front : List (Command ℕ)
    pub whole : entries_after front left ≡ said
    pub more : List ℕ
    pub put : Says contents a b more
    pub gathers : (h : Header) (commands : List (Command ℕ)) (text : List ℕ)
        → HasGathered o h commands text old
        → HasGathered o h (commands ++ front) (text ++ more) now

  module _ (said : Result (List (Command ℕ)) ℕ) (old : Driver O ℕ) (a : Output W) where
    pub way_begun : IsUnderWay said said old old a a
    way_begun = record {
      front = [];
      whole = none_before said;
      more = [];
      put = nothing_said a;
      gathers = λ h commands text t.
          subst (λ cs. HasGathered o h cs (text ++ []) old) (sym (append-nil commands))
          (subst (λ l. HasGathered o h commands l old) (sym (append-nil text)) t);
    }

    module _ (left : Result (List (Command ℕ)) ℕ) (now : Driver O ℕ) (b : Output W)
        (way : IsUnderWay said left old now a b) where
      pub way_on : (c : Command ℕ) (rest : Result (List (Command ℕ)) ℕ) (new : Driver O ℕ)
          (b' : Output W)
          → left ≡ entries_after (c ∷ []) rest → GathersCommand o contents c now new b b'
          → IsUnderWay said rest old new a b'
      way_on c rest new b' next (more, put, gathers) = record {
        front = way.front ++ c ∷ [];
        whole = one_more way.front left said way.whole c rest next;
        more = way.more ++ more;
        put = then way.put put;
        gathers =
            λ h commands text t. subst (λ cs. HasGathered o h cs (text ++ (way.more ++ more)) new)
            (append_assoc commands way.front (c ∷ []))
            (subst (λ l. HasGathered o h ((commands ++ way.front) ++ c ∷ []) l new)
            (append_assoc text way.more more)
            (gathers h (commands ++ way.front) (text ++ way.more) (way.gathers h commands text t)));
      }

      pub way_ended : left ≡ Ok [] → GathersLines o contents said old now a b
      way_ended ended =
          (way.front, all_said way.front left said way.whole ended, way.more, way.put, way.gathers)

-- the text of all commands is that of a run
pub run_text : (o : Order ℕ) (h : Header) (layout : Layout) (commands : List (Command ℕ))
    (notes : List (Note ℕ)) (last : ℕ) (text : List ℕ)
    → capacity_of layout ≡ h.capacity → limit_of layout ≡ greatest_of h.version
    → AreNotesOfCommands o layout h.start commands notes last → text ≡ flat_map note_text notes
    → IsRunText o (record { header = h; commands = commands }) (text ++ end_text last)
run_text o h layout commands notes last text capacity limit a gathered = record {
  run = a.run;
  steps = subst (λ m. Run (machine o h.capacity m) (opening h.capacity h.start) a.run) limit
      (subst (λ n. Run (machine o n (limit_of layout)) (opening n h.start) a.run) capacity
      a.notes.steps);
  expands = subst (λ n. Expand (opening n h.start) commands a.run) capacity a.expands;
  safe = subst (λ n. IsSafe o n h.start a.run) capacity a.safe;
  quiet = a.quiet;
  near = a.near;
  plain = subst (λ n. IsExactWherePlain o n h.start a.run) capacity a.plain;
  text = ap (λ t. t ++ end_text last) (gathered ∙ ap (flat_map note_text) a.notes.notes)
      ∙ ap (λ s. flat_map note_text (notes_of a.run) ++ end_text s)
      (a.notes.sequence ∙ ap (λ n. at (last_of (opening n h.start) a.run).latch.words 0) capacity);
}

-- what an engine answered that ran the lines behind a header
module _ (h : Header) (said : Result (List (Command ℕ)) ℕ) where
  pub answered : {O W : Type 0} (o : Order ℕ) (contents : W → Option (List ℕ))
      → o ≡ order_by h.closed → (old d : Driver O ℕ) (a b : Output W) → HasGathered o h [] [] old
      → (gathers : GathersLines o contents said old d a b) → (left : Notes O ℕ)
      → LeavesNotes o d left → left.notes.items ≡ notes_in d → (IsPut : List ℕ → Type 0)
      → IsPut (gathers.2 ++ end_text left.sequence)
      → (c : Contents) × (with_header h said ≡ Ok c) × HeaderMayOpen c.header
      × ((t : List ℕ) × IsRunText (order_by c.header.closed) c t × IsPut t)
  answered o contents same old d a b opened (cs, is, text, put, gathers) left leaves rest IsPut
      whole =
      let t = gathers h [] [] opened in
      let noted : t.notes ++ left.notes.items ≡ t.notes =
      ap (λ ns. t.notes ++ ns) (rest ∙ t.none) ∙ append-nil t.notes in
      let notes = subst (λ ns. AreNotesOfCommands o t.layout h.start cs ns left.sequence) noted
      (leaves t.layout h.start cs t.notes t.driven) in
      let runs = run_text o h t.layout cs t.notes left.sequence text t.capacity t.limit notes
      t.gathered in (
        record { header = h; commands = cs },
        ap (with_header h) is,
        t.opens,
        (
          text ++ end_text left.sequence,
          subst (λ p. IsRunText p (record { header = h; commands = cs })
              (text ++ end_text left.sequence)) same runs,
          whole,
        ),
      )
