-- What is done and written of a trace whose steps are told, one command after another: of the
-- functions of steps.
use Rattle.command_traces.proofs.Words.{◌≡◌, ◌≢◌, ℕ, true, false, List, [], ◌∷◌, ◌++◌, Result, Ok}
use Rattle.command_traces.proofs.Words.{Err, refl, sym, ◌∙◌, ap, subst, append_assoc, append-nil}
use Rattle.command_traces.proofs.Words.{inl, inr, map-append, Order, capacity_of, limit_of, Command}
use Rattle.command_traces.proofs.Words.{World, Repeats, most_of, AreReported, ObeysFromAny, Done}
use Rattle.command_traces.proofs.Words.{Moment, last_of, opening, Run, machine, machine_of}
use Rattle.command_traces.proofs.Words.{RepresentsMoment, layout_in, Output, Delivers, Says}
use Rattle.command_traces.proofs.Words.{has_failed, entries_after, all_delivered, nothing_said}
use Rattle.command_traces.proofs.Words.{part_written, same_text, then, then_flushed, of_read}
use Rattle.command_traces.proofs.Words.{none_before, one_more, NumberedCommand, Header, IsTaken}
use Rattle.command_traces.proofs.Words.{IsUnderstood, LinesLeft, Contents, command_lines, trace_of}
use Rattle.command_traces.proofs.Words.{with_header, Fault, BadLine, Write, AreLinesTold}
use Rattle.command_traces.proofs.Words.{IsOpenedFor, StopsTelling, Tells, TellsLines, steps_text}
use Rattle.command_traces.proofs.Words.{AnswersStepsSaid, AreTold, IsBegunOf, IsBegunText}
use Rattle.command_traces.proofs.Words.{IsFrontText, IsStepsText, StopsAfter, IsLinesFault}
use Rattle.command_traces.proofs.Words.{commands_of, numbers_of, IsTextOf, order_by}
use Rattle.std.proofs.Common.{Option}
use Rattle.std.specs.Prelude.{IfErr, IfSome, OnOk}
use Rattle.order_laws.specs.declared.refusals.Refusal.TheVariants as refusal
use Rattle.latch_steps.proofs.RunLemmas.{last_append, run_append}
use Rattle.command_parts.specs.declared.fault.Fault.TheVariants.{Refused}
use Rattle.command_traces.specs.StepTexts.{opening_text}

-- the events of a run that were reported as lines
reported_said : {W : Type 0} (o : Order ℕ) (contents : W → Option (List ℕ)) (n line : ℕ)
    (w : Moment ℕ) (run : List (Done ℕ)) (a b : Output W)
    → AreReported o n (Tells contents line) w run a b
    → Says contents a b (steps_text o n line w run)
reported_said o contents n line w [] a b h =
    subst (λ x. Says contents a x []) (sym h) (nothing_said a)
reported_said o contents n line w (d ∷ run) a b h =
    then h.1 (reported_said o contents n line d.after run h.0 b h.2)

-- one command more
told_push : (o : Order ℕ) (n : ℕ) (w : Moment ℕ) (cs : List NumberedCommand) (c : NumberedCommand)
    (run next : List (Done ℕ)) (text : List ℕ)
    → AreTold o n w cs run text → Repeats c.command (most_of (last_of w run) c.command) next
    → AreTold o n w (cs ++ c ∷ []) (run ++ next)
    (text ++ steps_text o n c.line (last_of w run) next)
told_push o n w [] c run next text h again =
    record {
      part = next;
      rest = [];
      rest_text = [];
      whole = ap (λ xs. xs ++ next) h.0 ∙ sym (append-nil next);
      told = (λ i. h.1 i ++ steps_text o n c.line (last_of w (h.0 i)) next) ∙ sym (append-nil _);
      repeats = subst (λ xs. Repeats c.command (most_of (last_of w xs) c.command) next) h.0 again;
      goes_on = (refl, refl);
    }
told_push o n w (d ∷ cs) c run next text h again =
    let there : last_of w run ≡ last_of (last_of w h.part) h.rest =
    ap (last_of w) h.whole ∙ last_append w h.part h.rest in
    let last : List ℕ = steps_text o n c.line (last_of (last_of w h.part) h.rest) next in
    record {
      part = h.part;
      rest = h.rest ++ next;
      rest_text = h.rest_text ++ last;
      whole = ap (λ xs. xs ++ next) h.whole ∙ append_assoc h.part h.rest next;
      told =
          (λ i. h.told i ++ steps_text o n c.line (there i) next) ∙ append_assoc _ h.rest_text last;
      repeats = h.repeats;
      goes_on = told_push o n (last_of w h.part) cs c h.rest next h.rest_text h.goes_on
          (subst (λ v. Repeats c.command (most_of v c.command) next) there again);
    }

-- lines of which a command is taken say more than nothing
pub some_left : (left rest : LinesLeft) (c : NumberedCommand) → IsTaken left c rest
    → left.said ≢ Ok []
some_left left rest c taken is = by rest.said (sym taken.said ∙ is)
  where
    by : (said : Result (List (Command ℕ)) ℕ) → entries_after (c.command ∷ []) said ≡ Ok [] → ⊥
    by (Ok more) e = absurd (cc)
    by (Err n) e = absurd (cc)

module _ {O W : Type 0} (o : Order ℕ) (contents : W → Option (List ℕ)) (lines : LinesLeft)
    (old : World O ℕ) (a : Output W) where
  pub lines_begun : AreLinesTold o contents lines lines old old a a
  lines_begun = record {
    front = [];
    taken = record { said = none_before lines.said; numbers = refl };
    told = λ w s. record {
      run = [];
      text = [];
      layout = refl;
      steps = tt;
      shows = s;
      told = (refl, refl);
      said = nothing_said a;
    };
  }

  -- one command more of the lines
  pub lines_more : (left rest : LinesLeft) (now new : World O ℕ) (b b' : Output W)
      (c : NumberedCommand) (line : ℕ) → line ≡ c.line
      → AreLinesTold o contents lines left old now a b → IsTaken left c rest
      → ObeysFromAny o (Tells contents line) c.command now new b b'
      → AreLinesTold o contents lines rest old new a b'
  lines_more left rest now new b b' c line same h taken obeys = record {
    front = h.front ++ c ∷ [];
    taken = record {
      said = ap (λ cs. entries_after cs rest.said)
          (map-append (λ (x : NumberedCommand). x.command) h.front (c ∷ []))
          ∙ one_more (commands_of h.front) left.said lines.said h.taken.said c.command rest.said
          taken.said;
      numbers = ap (λ ns. ns ++ rest.lines)
          (map-append (λ (x : NumberedCommand). x.line) h.front (c ∷ []))
          ∙ append_assoc (numbers_of h.front) (c.line ∷ []) rest.lines
          ∙ ap (λ ns. numbers_of h.front ++ ns) (sym taken.lines) ∙ h.taken.numbers;
    };
    told = λ w s.
        let t = h.told w s in
        let (run, done, repeats) =
        subst (λ l. ObeysFromAny o (Tells contents l) c.command now new b b') same obeys
        (last_of w t.run) t.shows in
        let l = layout_in old in
        let n = capacity_of l in
        let said = reported_said o contents (capacity_of (layout_in now)) c.line (last_of w t.run)
        run b b' done.reported in
        record {
          run = t.run ++ run;
          text = t.text ++ steps_text o n c.line (last_of w t.run) run;
          layout = done.layout ∙ t.layout;
          steps = run_append o n (limit_of l) w t.run run t.steps
              (subst (λ k. Run (machine_of o k) (last_of w t.run) run) t.layout done.steps);
          shows = subst (RepresentsMoment o new) (sym (last_append w t.run run)) done.shows;
          told = told_push o n w h.front c t.run run t.text t.told repeats;
          said = then t.said (same_text
              (ap (λ k. steps_text o (capacity_of k) c.line (last_of w t.run) run) t.layout) said);
        };
  }

  -- no command more could be taken from the lines
  pub next_stops : (left : LinesLeft) (now : World O ℕ) (b : Output W) (f : Fault)
      → AreLinesTold o contents lines left old now a b
      → left.said ≢ Ok [] → IsLinesFault left.said f → StopsTelling o contents lines old a b f
  next_stops left now b (Refused refusal.OutOfMemory) t some is = (left, now, some, t)
  next_stops left now b (BadLine place n) t some is =
      (is.0, sym t.taken.said ∙ ap (entries_after (commands_of t.front)) is.1)
  next_stops left now b _ t some is = absurd is

  -- memory ran out at a command, before anything of it was done
  pub obey_stops : (left rest : LinesLeft) (now : World O ℕ) (b b' : Output W) (c : NumberedCommand)
      → AreLinesTold o contents lines left old now a b
      → IsTaken left c rest → b' ≡ b
      → StopsTelling o contents lines old a b' (Refused refusal.OutOfMemory)
  obey_stops left rest now b b' c t taken same = (
    left,
    now,
    some_left left rest c taken,
    subst (λ x. AreLinesTold o contents lines left old now a x) (sym same) t,
  )

-- what is left of commands, some of which were taken
left_of : (front whole : List (Command ℕ)) (left : Result (List (Command ℕ)) ℕ)
    → entries_after front left ≡ Ok whole
    → (rest : List (Command ℕ)) × (left ≡ Ok rest) × (front ++ rest ≡ whole)
left_of front whole (Ok rest) is = (rest, refl, let same : front ++ rest ≡ whole = cc in same)
left_of front whole (Err n) is = absurd (cc)

-- from the opening to the last byte
module _ {O W : Type 0} (o : Order ℕ) (contents : W → Option (List ℕ)) (h : Header)
    (lines : LinesLeft) (known : IsUnderstood lines.said) (same : o ≡ order_by h.closed)
    (world : World O ℕ) (opened : IsOpenedFor o h world) (a b : Output W)
    (first : Says contents a b (opening_text h)) where
  abbrev c : Contents
  c = record { header = h; commands = known.0 }

  says : with_header h lines.said ≡ Ok c
  says = ap (with_header h) known.1

  module _ (left : LinesLeft) (new : World O ℕ) (b' : Output W)
      (t : AreLinesTold o contents lines left world new b b') where
    rest : (rest : List (Command ℕ)) × (left.said ≡ Ok rest)
        × (commands_of t.front ++ rest ≡ known.0)
    rest = left_of (commands_of t.front) known.0 left.said (t.taken.said ∙ known.1)

    -- the steps of the commands that were taken, after the opening
    front_said : (text : List ℕ)
        × IsFrontText (order_by h.closed) c lines.lines rest.0 left.lines text
        × Says contents a b' text
    front_said =
        let w : Moment ℕ = opening h.capacity h.start in
        let told = t.told w opened.shows in
        let here : IsFrontText o c lines.lines rest.0 left.lines (opening_text h ++ told.text) =
        record {
          front = t.front;
          commands = rest.2;
          numbers = t.taken.numbers;
          run = told.run;
          steps = subst (λ m. Run (machine o h.capacity m) w told.run) opened.limit
              (subst (λ n. Run (machine o n (limit_of (layout_in world))) w told.run)
              opened.capacity told.steps);
          text = told.text;
          told = subst (λ n. AreTold o n w t.front told.run told.text) opened.capacity told.told;
          whole = refl;
        } in (
          opening_text h ++ told.text,
          subst (λ p. IsFrontText p c lines.lines rest.0 left.lines (opening_text h ++ told.text))
              same here,
          then first told.said,
        )

    module _ (d : Output W) (flushed : Delivers contents b' d []) where
      steps_cut : has_failed d ≡ true
          → AnswersStepsSaid contents lines.lines (with_header h lines.said) a d (Err Write)
      steps_cut failed = (
        c,
        says,
        opened.opens,
        (
          front_said.0,
          (rest.0, left.lines, front_said.1),
          part_written (then_flushed front_said.2 flushed).0 failed,
        ),
      )

      steps_begun : has_failed d ≡ false → left.said ≢ Ok [] → AnswersStepsSaid contents lines.lines
          (with_header h lines.said) a d (Err (Refused refusal.OutOfMemory))
      steps_begun sound some =
          let more : rest.0 ≢ [] = λ none. some (rest.1 ∙ ap (λ cs. Ok cs) none) in
          inr (
            front_said.0,
            (c, says, opened.opens, (rest.0, left.lines, more, front_said.1)),
            all_delivered (then_flushed front_said.2 flushed) sound,
          )

      steps_ended : has_failed d ≡ false → left.said ≡ Ok [] → left.lines ≡ [] → (u : Unit {0})
          → AnswersStepsSaid contents lines.lines (with_header h lines.said) a d (Ok u)
      steps_ended sound ended none u =
          let gone : rest.0 ≡ [] = (let e = sym rest.1 ∙ ended in cc) in
          let text = front_said.0 in
          let whole : IsStepsText c lines.lines text =
          subst (λ ls. IsFrontText (order_by h.closed) c lines.lines [] ls text) none
          (subst (λ cs. IsFrontText (order_by h.closed) c lines.lines cs left.lines text) gone
          front_said.1) in (
            c,
            says,
            opened.opens,
            (text, whole, all_delivered (then_flushed front_said.2 flushed) sound),
          )

  -- what an engine answers that told its commands, or stopped, and then flushed the output
  module _ (b' d : Output W) (flushed : Delivers contents b' d []) where
    pub steps_failed : (r : Result (Unit {0}) Fault)
        → OnOk r (TellsLines o contents lines world b b')
        → IfErr r (StopsTelling o contents lines world b b')
        → has_failed d ≡ true
        → AnswersStepsSaid contents lines.lines (with_header h lines.said) a d (Err Write)
    steps_failed (Ok u) (left, new, ended, none, t) stopped failed =
        steps_cut left new b' t d flushed failed
    steps_failed (Err (Refused refusal.OutOfMemory)) told (left, new, some, t) failed =
        steps_cut left new b' t d flushed failed
    steps_failed (Err Write) told (there, (left, new, t)) failed =
        steps_cut left new b' t d flushed failed
    steps_failed (Err (BadLine place n)) told (first_file, bad) failed = let e =
        sym known.1 ∙ bad in
        absurd (cc)
    steps_failed (Err _) told stopped failed = absurd stopped

    pub steps_answered : (r : Result (Unit {0}) Fault)
        → OnOk r (TellsLines o contents lines world b b')
        → IfErr r (StopsTelling o contents lines world b b')
        → has_failed d ≡ false
        → AnswersStepsSaid contents lines.lines (with_header h lines.said) a d r
    steps_answered (Ok u) (left, new, ended, none, t) stopped sound =
        steps_ended left new b' t d flushed sound ended none u
    steps_answered (Err (Refused refusal.OutOfMemory)) told (left, new, some, t) sound =
        steps_begun left new b' t d flushed sound some
    steps_answered (Err Write) told (there, (left, new, t)) sound = let e =
        sym (flushed.0.stays there) ∙ sound in
        absurd (cc)
    steps_answered (Err (BadLine place n)) told (first_file, bad) sound = let e =
        sym known.1 ∙ bad in
        absurd (cc)
    steps_answered (Err _) told stopped sound = absurd stopped

-- what was written before memory ran out, if the bytes are those that a reader had
pub begun_read : {W : Type 0} (contents : W → Option (List ℕ)) (had : Option (List ℕ))
    (bytes : List ℕ) → IfSome had (λ l. bytes ≡ l) → (w w' : Output W)
    → StopsAfter (IsBegunOf (command_lines bytes) (trace_of bytes)) contents w w'
    → StopsAfter (λ text. IfSome had (λ read.
    IsTextOf (λ bytes said. IsBegunText said (command_lines bytes)) read text)) contents w w'
begun_read contents had bytes whole w w' (inl same) = inl same
begun_read contents had bytes whole w w' (inr (text, (c, reads, opens, begun), wrote)) =
    inr (
      text,
      of_read had bytes
          (λ read. IsTextOf (λ bytes said. IsBegunText said (command_lines bytes)) read text) whole
          (record { said = c; reads = reads; opens = opens; runs = begun }),
      wrote,
    )
