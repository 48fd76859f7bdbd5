-- Runs of a log that are named, and what is read and written for them.
use Rattle.command_listings.proofs.Words.{◌≡◌, ◌∙◌, ◌+◌, ◌-◌, ◌≤◌, ◌^◌, ℕ, List, [], ◌++◌, ◌⊎◌}
use Rattle.command_listings.proofs.Words.{Option, Result, Ok, Err, Bool, true, false, refl, sym, ap}
use Rattle.command_listings.proofs.Words.{subst, inl, inr, arith, take, append-nil, append_assoc}
use Rattle.command_listings.proofs.Words.{Output, Counted, LogFault, CatalogEntries, answered_by}
use Rattle.command_listings.proofs.Words.{WrotePart}
use Rattle.std.specs.Io.KnownBytes.{IsAtEnd}
use Rattle.std.proofs.Common.{true≢false}
use Rattle.std.proofs.KnownBytes.{Appends-nil, Appends-trans, Consumes-kept, Consumes-nil}
use Rattle.std.proofs.KnownBytes.{Consumes-trans}
use Rattle.texts.specs.Counted.{device_of}
use Rattle.modules.specs.Listed.{BoundNames}
use Rattle.listing.specs.declared.address_rules.LogRule.{LogRule}
use Rattle.logs.specs.Annotation.{IsOpen, Puts, context_in}
use Rattle.logs.specs.AnnotatedLogs.{first_context}
use Rattle.logs.specs.Answering.{Answering}
use Rattle.logs.specs.declared.annotation.LogFault.TheVariants as fault
use Rattle.logs.specs.declared.log_names.LogNames.{LogNames}
use Rattle.histories.specs.Grammar.{HistoryPart}
use Rattle.histories.specs.ListingsAt.{IsOf, ListingAfter}
use Rattle.command_parts.specs.HistoryFiles.{symbols_alone}
use Rattle.command_parts.specs.OpenedCatalogs.{IsCatalogOf}
use Rattle.listing.specs.declared.listing_notes.ListingNotes.{ListingNotes}
use Rattle.command_listings.specs.LineRuns.{IsRun, ended_in, first_times, times_behind}
use Rattle.command_listings.specs.TimedLogs.{AreAnswersAfter, EndsBy, IsCutOff, IsNamedOn}
use Rattle.command_listings.specs.TimedLogs.{IsNamedTo, IsTimed, IsNamedWhole, IsStopped, IsTimedTo}
use Rattle.command_listings.specs.TimedLogs.{IsTurn, IsUpTo, NamesEnd, NamesRun, PutsLast, PutsRun}
use Rattle.command_listings.specs.TimedLogs.{ReadsOn, TimedPoint, first_point, is_narrow_history}
use Rattle.command_listings.specs.TimedLogs.{left_of, no_run, one_more}
use Rattle.command_listings.specs.declared.line_runs.LogTimes.{LogTimes}
use Rattle.command_listings.specs.HistoryAnnotations.{IsEndOf}
use Rattle.command_listings.specs.declared.timed_logs.Pending.{Pending}
use Rattle.command_listings.specs.declared.timed_logs.TimedEnd.{TimedEnd}
use Rattle.command_listings.specs.declared.timed_logs.TimedLines.{TimedLines}
use Rattle.command_listings.specs.declared.timed_logs.TimedLog.{TimedLog}
use Rattle.command_listings.specs.declared.timed_logs.Turn.{Turn}
use Rattle.command_listings.specs.declared.timed_logs.Turn.TheVariants as turn

module _ (kernel : Option BoundNames) (rule : LogRule) (parts : List HistoryPart) where
  -- the answers are of a log of such a kernel
  answers_narrow : (count : ℕ) (answer : Answering) → AreAnswersAfter kernel rule parts count answer
      → answer.is_narrow ≡ is_narrow_history parts
  answers_narrow count answer (few, (c, notes, said, is)) = ap (λ (x : Answering). x.is_narrow) is

  -- the answers of the catalog of a listing of the history
  pub answers_after : (at : ListingAfter) (c c' : CatalogEntries) (notes : ListingNotes)
      (rule' : LogRule) (narrow : Bool) (text : List ℕ) → IsOf parts at → text ≡ at.text
      → IsCatalogOf kernel (symbols_alone text) c notes → c' ≡ c → rule' ≡ rule
      → narrow ≡ is_narrow_history parts
      → AreAnswersAfter kernel rule parts at.count (answered_by c' rule' narrow)
  answers_after at c c' notes rule' narrow text (few, is_after) same said index by sized = (
    few,
    (
      c,
      notes,
      rw (same ∙ is_after) at said,
      ap (λ x. answered_by x rule' narrow) index ∙ ap (λ r. answered_by c r narrow) by
          ∙ ap (answered_by c rule) sized,
    ),
  )

  module _ (count : ℕ) (answer : Answering)
      (are : AreAnswersAfter kernel rule parts count answer) where
    -- a run is named
    pub run_named : (p : TimedPoint) (s s' : TimedLines) (bytes text : List ℕ)
        (pending : Option Pending) → IsOpen s.annotator p.line → p.context ≡ context_in s.annotator
        → p.times ≡ s.times → PutsRun parts count answer s s' bytes pending text
        → (run : List ℕ) × (bytes ≡ run ++ left_of pending)
        × ((p' : TimedPoint) × NamesRun kernel rule parts count answer p p' run text × IsOpen
        s'.annotator p'.line × (p'.context ≡ context_in s'.annotator) × (p'.times ≡ s'.times))
    run_named p s s' bytes text pending is_open context times (run, parted, passes, after) =
        let passed = passes p.line is_open in
        let p' : TimedPoint =
        record { times = s'.times; context = context_in s'.annotator; line = passed.line' } in
        let is_run : IsRun parts answer.is_narrow count s.times s'.times
        (ended_in (p.line ++ run)) = after p.line is_open in (
          run,
          parted,
          (
            p',
            record {
              ended = passed.passed;
              parts_are = passed.parts;
              whole = passed.whole;
              no_end = passed.is_open.no_end;
              run = rw (← times, answers_narrow count answer are) at is_run;
              context = rw (← context) at passed.context;
              put = rw (← context) at passed.put;
            },
            passed.is_open,
            refl,
            refl,
          ),
        )

  module _ {L W : Type 0} (remaining : L → Option (List ℕ)) (contents : W → Option (List ℕ))
      (l : Counted L) (w : Output W) where
    -- nothing was read
    pub begun : (s : TimedLog) → context_in s.lines.annotator ≡ first_context
        → IsOpen s.lines.annotator [] → s.lines.times ≡ first_times → s.left.items ≡ []
        → s.is_ended ≡ false → s.head.items ≡ []
        → IsTimedTo kernel rule parts remaining contents l w 0 s l w
    begun s context is_open times none on head = (
      record {
        point = first_point;
        log = [];
        text = [];
        named = no_run;
        is_open = is_open;
        context = sym context;
        times = sym times;
        read = refl;
        consumed = rw none (Consumes-nil _);
        head_is = head ∙ ap (take 2) (sym none);
        sound = refl;
        none_back = inl refl;
        appended = Appends-nil _;
      },
      λ ended. absurd (true≢false (sym ended ∙ on)),
    )

    module _ (n : ℕ) (s : TimedLines) (left head : List ℕ) (l' : Counted L) (w' : Output W)
        (to : IsNamedTo kernel rule parts remaining contents l w n s left head l' w') where
      -- what was put so far, whatever comes of the rest
      pub up_to : IsUpTo kernel rule parts remaining contents l w n l' w'
      up_to = (
        to.point,
        to.log,
        to.text,
        left,
        to.named,
        to.consumed,
        to.sound,
        to.none_back,
        to.appended,
      )

      -- memory ran out
      pub starved : IsStopped kernel rule parts remaining contents l w fault.OutOfMemory l' w'
      starved = (to.read, (n, up_to))

      module _ (count : ℕ) (answer : Answering)
          (are : AreAnswersAfter kernel rule parts count answer) (s' : TimedLines)
          (w'' : Output W) where
        -- one run more
        pub run_put : (pending : Option Pending)
            → Puts contents (PutsRun parts count answer s s' left) w' w'' (Ok pending) → IsNamedTo
            kernel rule parts remaining contents l w (n + 1) s' (left_of pending) head l' w''
        run_put pending (text, put, puts) =
            let (run, parted, (p', named, is_open, context, times)) = run_named count answer are
            to.point s s' left text pending to.is_open to.context to.times puts in
            let all : to.log ++ left ≡ (to.log ++ run) ++ left_of pending =
            ap (λ b. to.log ++ b) parted ∙ sym (append_assoc to.log run (left_of pending)) in
            record {
              point = p';
              log = to.log ++ run;
              text = to.text ++ text;
              named =
                  one_more n count answer to.point p' to.log run to.text text to.named are named;
              is_open = is_open;
              context = context;
              times = times;
              read = to.read;
              consumed = rw all at to.consumed;
              head_is = to.head_is ∙ ap (take 2) all;
              sound = put.1 ∙ sym put.0 ∙ to.sound;
              none_back = inr put.3;
              appended = Appends-trans _ _ _ to.text text to.appended put.2;
            }

        -- a run that was not written
        run_cut : (pending : Option Pending) (text : List ℕ) → WrotePart contents w' w'' text
            → PutsRun parts count answer s s' left pending text
            → IsCutOff kernel rule parts remaining contents l w l' w''
        run_cut pending text (failed, part, lost, parted_text, put) puts =
            let (run, parted, (p', named, is_open, context, times)) = run_named count answer are
            to.point s s' left text pending to.is_open to.context to.times puts in
            let all : to.log ++ left ≡ (to.log ++ run) ++ left_of pending =
            ap (λ b. to.log ++ b) parted ∙ sym (append_assoc to.log run (left_of pending)) in (
              failed,
              (
                to.log ++ run,
                left_of pending,
                to.text ++ part,
                lost,
                rw all at to.consumed,
                Appends-trans _ _ _ to.text part to.appended put,
                (
                  n + 1,
                  p',
                  inl (rw
                      (ap (λ t. to.text ++ t) parted_text ∙ sym (append_assoc to.text part lost)) at
                      (one_more n count answer to.point p' to.log run to.text text to.named are
                      named)),
                ),
              ),
            )

        pub run_stopped : (f : LogFault) → Puts {X = Option Pending} contents
            (PutsRun parts count answer s s' left) w' w'' (Err f)
            → IsStopped kernel rule parts remaining contents l w f l' w''
        run_stopped fault.OutOfMemory same =
            subst (λ x. IsStopped kernel rule parts remaining contents l w fault.OutOfMemory l' x)
            (sym same) starved
        run_stopped fault.Write ((text, pending, put, puts), is) =
            (to.read, run_cut pending text put puts, is)
        run_stopped fault.Closed ((text, pending, put, puts), is) =
            (to.read, run_cut pending text put puts, is)
        run_stopped fault.Read (some, is) = absurd is
        run_stopped fault.TooLong (some, is) = absurd is

      -- the log is at its end, and its last line is put or not
      module _ (none : left ≡ []) where
        log_is : to.log ++ left ≡ to.log
        log_is = ap (λ b. to.log ++ b) none ∙ append-nil to.log

        module _ (count : ℕ) (answer : Answering)
            (are : AreAnswersAfter kernel rule parts count answer) where
          last_named : (names : LogNames) (times : LogTimes) (text : List ℕ)
              → EndsBy parts count answer s names times text
              → NamesEnd kernel rule parts to.point names times text
          last_named names times text (ends, after) =
              let end = ends to.point.line to.is_open in
              let (may, same) = after to.point.line to.is_open in
              let narrow = answers_narrow count answer are in
              record {
                count = count;
                answer = answer;
                answers = are;
                named =
                    rw (← to.times, narrow) at may;
                times_are =
                    same ∙ ap (λ t. times_behind answer.is_narrow t to.point.line) (sym to.times)
                    ∙ ap (λ b. times_behind b to.point.times to.point.line) narrow;
                names_are = rw (← to.context) at end.names_are;
                put = rw (← to.context) at end.put;
              }

          pub last_put : (names : LogNames) (times : LogTimes) (w'' : Output W)
              → IsAtEnd (remaining (device_of l'))
              → PutsLast contents parts count answer s w' w'' (Ok (turn.Ended names times))
              → IsNamedWhole kernel rule parts remaining contents l w names times head l' w''
          last_put names times w'' at_end (text, put, ends) = record {
            runs = n;
            point = to.point;
            log = to.log;
            text = to.text;
            last = text;
            named = to.named;
            ended = last_named names times text ends;
            read = to.read;
            consumed = rw log_is at to.consumed;
            at_end = at_end;
            head_is = to.head_is ∙ ap (take 2) log_is;
            sound = put.1;
            none_back = inr put.3;
            appended = Appends-trans _ _ _ to.text text to.appended put.2;
          }

          last_cut : (w'' : Output W) (names : LogNames) (times : LogTimes) (text : List ℕ)
              → WrotePart contents w' w'' text → EndsBy parts count answer s names times text
              → IsCutOff kernel rule parts remaining contents l w l' w''
          last_cut w'' names times text (failed, part, lost, parted, put) ends = (
            failed,
            (
              to.log,
              left,
              to.text ++ part,
              lost,
              to.consumed,
              Appends-trans _ _ _ to.text part to.appended put,
              (
                n,
                to.point,
                inr (
                  to.text,
                  text,
                  names,
                  times,
                  to.named,
                  last_named names times text ends,
                  append_assoc to.text part lost ∙ ap (λ t. to.text ++ t) (sym parted),
                ),
              ),
            ),
          )

          pub last_stopped : (w'' : Output W) (f : LogFault)
              → PutsLast contents parts count answer s w' w'' (Err f)
              → IsStopped kernel rule parts remaining contents l w f l' w''
          last_stopped w'' fault.OutOfMemory same =
              subst (λ x. IsStopped kernel rule parts remaining contents l w fault.OutOfMemory l' x)
              (sym same) starved
          last_stopped w'' fault.Write ((text, (names, times), put, ends), is) =
              (to.read, last_cut w'' names times text put ends, is)
          last_stopped w'' fault.Closed ((text, (names, times), put, ends), is) =
              (to.read, last_cut w'' names times text put ends, is)
          last_stopped w'' fault.Read (some, is) = absurd is
          last_stopped w'' fault.TooLong (some, is) = absurd is

    -- ---- blocks

    module _ (n : ℕ) (s s' : TimedLog) (l' l'' : Counted L) (w' : Output W) (to : IsNamedTo kernel
        rule parts remaining contents l w n s.lines s.left.items s.head.items l' w')
        (none : s.left.items ≡ []) where
      log_so : to.log ++ s.left.items ≡ to.log
      log_so = ap (λ b. to.log ++ b) none ∙ append-nil to.log

      -- a block was read
      pub block_read : (count : ℕ) → ReadsOn remaining l' l'' s s' (Ok count)
          → IsNamedTo kernel rule parts remaining contents l w n s'.lines (take count s'.room.items)
          s'.head.items l'' w'
      block_read count (same, all, took, within, head, ended, on) =
          let block = take count s'.room.items in
          record {
            point = to.point;
            log = to.log;
            text = to.text;
            named = to.named;
            is_open = rw same.0 to.is_open;
            context = to.context ∙ ap (λ (x : TimedLines). context_in x.annotator) (sym same.0);
            times = to.times ∙ ap (λ (x : TimedLines). x.times) (sym same.0);
            read = all ∙ to.read;
            consumed =
                Consumes-trans _ _ _ to.log block (rw log_so at to.consumed) took;
            head_is = head to.log (to.head_is ∙ ap (take 2) log_so);
            sound = to.sound;
            none_back = to.none_back;
            appended = to.appended;
          }

      -- it could not be read
      pub read_stopped : (f : LogFault) → ReadsOn remaining l' l'' s s' (Err f)
          → IsStopped kernel rule parts remaining contents l w f l'' w'
      read_stopped fault.Read (rose, keeps) = (
        rw to.read at rose,
        (
          n,
          (
            to.point,
            to.log,
            to.text,
            s.left.items,
            to.named,
            Consumes-kept _ _ _ _ to.consumed keeps,
            to.sound,
            to.none_back,
            to.appended,
          ),
        ),
      )
      read_stopped fault.OutOfMemory (all, (bytes, took)) = (
        all ∙ to.read,
        (
          n,
          (
            to.point,
            to.log,
            to.text,
            bytes,
            to.named,
            Consumes-trans _ _ _ to.log bytes (rw log_so at to.consumed) took,
            to.sound,
            to.none_back,
            to.appended,
          ),
        ),
      )
      read_stopped fault.Write is = absurd is
      read_stopped fault.Closed is = absurd is
      read_stopped fault.TooLong is = absurd is

    -- more turns than are counted
    pub too_long : (n : ℕ) (s : TimedLines) (left head : List ℕ) (l' : Counted L) (w' : Output W)
        → 2 ^ 64 - 1 ≤ n → IsNamedTo kernel rule parts remaining contents l w n s left head l' w'
        → IsStopped kernel rule parts remaining contents l w fault.TooLong l' w'
    too_long n s left head l' w' many to = (to.read, (n, many, up_to n s left head l' w' to))

    -- ---- turns

    module _ (count : ℕ) (answer : Answering)
        (are : AreAnswersAfter kernel rule parts count answer) where
      -- what another listing left is named
      pub left_named : (n : ℕ) (s s' : TimedLog) (l' : Counted L) (w' w'' : Output W)
          (pending : Option Pending) → IsTimedTo kernel rule parts remaining contents l w n s l' w'
          → Puts contents (PutsRun parts count answer s.lines s'.lines s.left.items)
          w' w'' (Ok pending) → s'.left.items ≡ left_of pending → s'.head.items ≡ s.head.items
          → s'.is_ended ≡ s.is_ended
          → IsTimedTo kernel rule parts remaining contents l w (n + 1) s' l' w''
      left_named n s s' l' w' w'' pending (to, ended) puts left head on =
          let named = run_put n s.lines s.left.items s.head.items l' w' to count answer are s'.lines
          w'' pending puts in (
            rw (head, left) named,
            λ is. ended (sym on ∙ is),
          )

      pub left_stopped : (n : ℕ) (s : TimedLog) (lines : TimedLines) (l' : Counted L)
          (w' w'' : Output W) (f : LogFault)
          → IsTimedTo kernel rule parts remaining contents l w n s l' w'
          → Puts {X = Option Pending} contents
          (PutsRun parts count answer s.lines lines s.left.items) w' w'' (Err f)
          → IsStopped kernel rule parts remaining contents l w f l' w''
      left_stopped n s lines l' w' w'' f (to, ended) puts =
          run_stopped n s.lines s.left.items s.head.items l' w' to count answer are lines w'' f puts

      module _ (n : ℕ) (s s' : TimedLog) (l' l'' : Counted L) (w' : Output W) (k : ℕ)
          (timed : IsTimedTo kernel rule parts remaining contents l w n s l' w')
          (none : s.left.items ≡ []) (read : ReadsOn remaining l' l'' s s' (Ok k)) where
        to_block : IsNamedTo kernel rule parts remaining contents l w n s'.lines
            (take k s'.room.items) s'.head.items l'' w'
        to_block = block_read n s s' l' l'' w' timed.0 none k read

        -- a block is named
        pub block_named : (s'' : TimedLog) (w'' : Output W) (pending : Option Pending) → (k ≡ 0 → ⊥)
            → Puts contents (PutsRun parts count answer s'.lines s''.lines (take k s'.room.items))
            w' w'' (Ok pending)
            → s''.left.items ≡ left_of pending → s''.head.items ≡ s'.head.items
            → s''.is_ended ≡ s'.is_ended
            → IsTimedTo kernel rule parts remaining contents l w (n + 1) s'' l'' w''
        block_named s'' w'' pending some puts left head on =
            let named = run_put n s'.lines (take k s'.room.items) s'.head.items l'' w' to_block
            count answer are s''.lines w'' pending puts in (
              rw (head, left) named,
              λ is. is_over read.6 (sym on ∙ is),
            )
          where
            is_over : (k ≡ 0) ⊎ (s'.is_ended ≡ false) → s'.is_ended ≡ true
                → IsAtEnd (remaining (device_of l''))
            is_over (inl zero) is = absurd (some zero)
            is_over (inr goes) is = absurd (true≢false (sym is ∙ goes))

        pub block_stopped : (lines : TimedLines) (w'' : Output W) (f : LogFault)
            → Puts {X = Option Pending} contents
            (PutsRun parts count answer s'.lines lines (take k s'.room.items)) w' w'' (Err f)
            → IsStopped kernel rule parts remaining contents l w f l'' w''
        block_stopped lines w'' f puts = run_stopped n s'.lines (take k s'.room.items) s'.head.items
            l'' w' to_block count answer are lines w'' f puts

        -- the log is at its end
        pub at_end : (w'' : Output W) (result : Result Turn LogFault) → k ≡ 0
            → PutsLast contents parts count answer s'.lines w' w'' result
            → IsTurn kernel rule parts remaining contents l w n s' result l'' w''
        at_end w'' result zero puts = by result puts
          where
            to_end : IsNamedTo kernel rule parts remaining contents l w n s'.lines [] s'.head.items
                l'' w'
            to_end = rw zero at to_block

            over : IsAtEnd (remaining (device_of l''))
            over = read.5 zero timed.1

            by : (result : Result Turn LogFault)
                → PutsLast contents parts count answer s'.lines w' w'' result
                → IsTurn kernel rule parts remaining contents l w n s' result l'' w''
            by (Ok (turn.Ended names times)) puts = last_put n s'.lines [] s'.head.items
                l'' w' to_end refl count answer are names times w'' over puts
            by (Ok (turn.Other time)) same = (
              n,
              omega arith,
              rw same (
                rw (read.0.1 ∙ none) to_end,
                λ is. over,
              ),
            )
            by (Err f) puts = last_stopped n s'.lines [] s'.head.items l'' w' to_end refl count
                answer are w'' f puts

    -- a turn of more runs is one of fewer
    pub turn_less : (n m : ℕ) (s : TimedLog) (result : Result Turn LogFault) (l' : Counted L)
        (w' : Output W) → n ≤ m → IsTurn kernel rule parts remaining contents l w m s result l' w'
        → IsTurn kernel rule parts remaining contents l w n s result l' w'
    turn_less n m s (Ok (turn.Ended names times)) l' w' few is = is
    turn_less n m s (Ok (turn.Other time)) l' w' few (k, many, to) =
        (k, omega (arith, few, many), to)
    turn_less n m s (Err f) l' w' few is = is

    -- what is found at the end of a log that was named to its end, or not
    pub ended_as : (s : TimedLog) (named : Result (LogNames × LogTimes) LogFault)
        (end : Result TimedEnd LogFault) (l' : Counted L) (w' : Output W)
        → IsEndOf named s.head.items end
        → IsNamedOn kernel rule parts remaining contents l w s named l' w'
        → IsTimed kernel rule parts remaining contents l w end l' w'
    ended_as s (Ok x) (Ok end) l' w' (names, times, head) is =
        subst (λ n. IsNamedWhole kernel rule parts remaining contents l w n end.times
        end.found.head.items l' w') (sym names)
        (rw (times, head) is)
    ended_as s (Err f) (Err f') l' w' same is =
        subst (λ f. IsStopped kernel rule parts remaining contents l w f l' w') (sym same) is
    ended_as s (Ok x) (Err f) l' w' none is = absurd none
    ended_as s (Err f) (Ok end) l' w' none is = absurd none
