-- Blocks that are read and written one after the other.
use Rattle.logs.proofs.Definitions.{◌≡◌, ◌∙◌, ℕ, ◌+◌, ◌<◌, ◌≤◌, inl, inr, List, [], ◌∷◌, ◌++◌}
use Rattle.logs.proofs.Definitions.{length, length-append, arith, refl, sym, ap, Ok, Err, take}
use Rattle.logs.proofs.Definitions.{append_assoc, append-nil, ◌^◌, Appends, Consumes, IsAtEnd}
use Rattle.logs.proofs.Definitions.{Keeps, NoneFailed, Rose, device_of, failures_of, Output}
use Rattle.logs.proofs.Definitions.{WrotePart, contents_of, has_failed, Answering, lines, annotated}
use Rattle.logs.proofs.Definitions.{first_context, context_over, Annotates, BeginsLog, EndsLog}
use Rattle.logs.proofs.Definitions.{IsCutOff, IsOpen, IsUpToDate, KeepsNothingBack, Passes, Puts}
use Rattle.logs.proofs.Definitions.{context_in, put_of, LogFault, Annotator, IsAnnotation}
use Rattle.std.proofs.Common.{Option}
use Rattle.std.specs.Prelude.{◌-◌}
use Rattle.std.proofs.KnownBytes.{Appends-nil, Appends-trans, Consumes-kept, Consumes-nil}
use Rattle.std.proofs.KnownBytes.{Consumes-trans}
use Rattle.texts.specs.declared.counted.Counted.{Counted}
use Rattle.logs.specs.declared.annotation.Findings.{Findings}
use Rattle.logs.specs.declared.annotation.LogFault.TheVariants as fault
use Rattle.logs.specs.declared.log_names.LogNames.{LogNames}
use Rattle.logs.proofs.LineLemmas.{context_then, lines_then, passes_nothing, put_begins}
use Rattle.logs.proofs.LineLemmas.{then_passes}

-- With these bytes an annotator came here from one of the beginning of a log.
pub record Came (answer : Answering) (a : Annotator) (written read : List ℕ) : Type 0 where
  pub first : Annotator
  pub is_open : IsOpen first []
  pub context : context_in first ≡ first_context
  pub passes : Passes answer first a read written

begins_less : (answer : Answering) (written part rest text read : List ℕ) → text ≡ part ++ rest
    → BeginsLog answer (written ++ text) read → BeginsLog answer (written ++ part) read
begins_less answer written part rest text read parts begins = λ more.
    let (behind, is) = begins more in (rest ++ behind, is ∙ simp (parts, append_assoc))

begins_more : (answer : Answering) (written read bytes : List ℕ) → BeginsLog answer written read
    → BeginsLog answer written (read ++ bytes)
begins_more answer written read bytes begins = λ more.
    let (behind, is) = begins (bytes ++ more) in (behind, rw (append_assoc read bytes more) is)

module _ {answer : Answering} where
  came_more : {a : Annotator} {written read : List ℕ} (a' : Annotator) (bytes text : List ℕ)
      → Came answer a written read → Passes answer a a' bytes text
      → Came answer a' (written ++ text) (read ++ bytes)
  came_more {a = a} {written = written} {read = read} a' bytes text came more = record {
    first = came.first;
    is_open = came.is_open;
    context = came.context;
    passes = then_passes answer came.first a a' read bytes written text came.passes more;
  }

  up_to_date : {a : Annotator} {written read : List ℕ} → Came answer a written read
      → IsUpToDate answer written read
  up_to_date {written = written} came =
      let p = came.passes [] came.is_open in
      let is_written : written ≡ annotated answer p.passed ++ put_of p.line' =
      rw came.context at p.put in
      record {
        passed = p.passed;
        line = p.line';
        parts = p.parts;
        whole = p.whole;
        no_end = p.is_open.no_end;
        is_written = is_written;
        begins = λ more.
            let (behind, is) =
            put_begins answer (context_over answer first_context (lines p.passed)) p.line' more
            p.is_open.no_end in (
              behind,
              ap (λ l. annotated answer (l ++ more)) p.parts
                  ∙ (rw (
                    append_assoc p.passed p.line' more,
                    p.whole (p.line' ++ more),
                    lines_then answer first_context (lines p.passed) (lines (p.line' ++ more)),
                    is,
                  ) (sym (append_assoc (annotated answer p.passed) (put_of p.line') behind)))
                  ∙ ap (λ l. l ++ behind) (sym is_written),
            );
      }

  -- the log is there as a whole
  whole_at : {a : Annotator} {written read : List ℕ} (text : List ℕ) (names : LogNames)
      → Came answer a written read → EndsLog answer a names text
      → (written ++ text ≡ annotated answer read)
      × (names ≡ (context_over answer first_context (lines read)).names)
  whole_at {a = a} {read = read} text names came ends =
      let p = came.passes [] came.is_open in
      let e = ends p.line' p.is_open in
      let context : context_in a ≡ context_over answer first_context (lines p.passed) =
      p.context ∙ ap (λ h. context_over answer h (lines p.passed)) came.context in
      let all : lines read ≡ lines p.passed ++ lines p.line' =
      ap lines p.parts ∙ p.whole p.line' in (
        rw (
          all,
          lines_then answer first_context (lines p.passed) (lines p.line'),
          ← context,
          ← e.put,
          ← append_assoc,
        ) (ap (λ l. l ++ text) (rw came.context at p.put)),
        rw (all, context_then answer first_context (lines p.passed) (lines p.line'), ← context)
            e.names_are,
      )

-- the first two bytes, of what was read and of bytes more
pub head_more : (head bytes read : List ℕ) → head ≡ take 2 read
    → head ++ take (2 - length head) bytes ≡ take 2 (read ++ bytes)
head_more head bytes [] is = rw is
head_more head bytes (a ∷ []) is = rw is
head_more head bytes (a ∷ b ∷ read) is = rw is

-- So much was read and written, and nothing failed. Each turn read a byte at least.
pub record IsOn {R W : Type 0} (remaining : R → Option (List ℕ)) (contents : W → Option (List ℕ))
    (answer : Answering) (r r' : Counted R) (w w' : Output W) (a : Annotator) (head : List ℕ)
    (turns : ℕ) : Type 0 where
  pub read_all : NoneFailed r r'
  pub written_all : has_failed w' ≡ has_failed w
  pub none_back : KeepsNothingBack w w'
  pub read : List ℕ
  pub written : List ℕ
  pub many : turns ≤ length read
  pub consumed : Consumes (remaining (device_of r)) (remaining (device_of r')) read
  pub appended : Appends (contents_of contents w) (contents_of contents w') written
  pub came : Came answer a written read
  pub head_is : head ≡ take 2 read

module _ {R W : Type 0} {remaining : R → Option (List ℕ)} {contents : W → Option (List ℕ)}
    {answer : Answering} {r : Counted R} {w : Output W} where
  pub begun : {a : Annotator} {h : List ℕ} → context_in a ≡ first_context → IsOpen a [] → h ≡ []
      → IsOn remaining contents answer r r w w a h 0
  begun {a = a} context is_open none = record {
    read_all = refl;
    written_all = refl;
    none_back = inl refl;
    read = [];
    written = [];
    many = omega arith;
    consumed = Consumes-nil _;
    appended = Appends-nil _;
    came =
        record {
          first = a;
          is_open = is_open;
          context = context;
          passes = passes_nothing answer a;
        };
    head_is = none;
  }

  module _ {r' : Counted R} {w' : Output W} {a : Annotator} {h : List ℕ} {n : ℕ}
      (on : IsOn remaining contents answer r r' w w' a h n) where
    -- no block is left to be read
    pub too_long : 2 ^ 64 - 1 ≤ n
        → Annotates remaining contents answer r r' w w' (Err fault.TooLong)
    too_long last = (
      on.read_all,
      (
        on.written_all,
        on.none_back,
        (
          on.read,
          on.written,
          on.consumed,
          on.appended,
          (up_to_date on.came, omega (arith, on.many, last)),
        ),
      ),
    )

    module _ (r'' : Counted R) where
      -- a read failed
      pub not_read : Rose (failures_of r') (failures_of r'')
          → Keeps (remaining (device_of r')) (remaining (device_of r''))
          → Annotates remaining contents answer r r'' w w' (Err fault.Read)
      not_read rose keeps = (
        rw on.read_all at rose,
        (
          on.written_all,
          on.none_back,
          (
            on.read,
            on.written,
            Consumes-kept _ _ _ on.read on.consumed keeps,
            on.appended,
            up_to_date on.came,
          ),
        ),
      )

      module _ (w'' : Output W) (bytes : List ℕ) (all : NoneFailed r' r'')
          (took : Consumes (remaining (device_of r')) (remaining (device_of r'')) bytes) where
        -- a block more
        pub one_more : {a' : Annotator} {h' : List ℕ} (u : Unit {0}) → 0 < length bytes
            → ((read : List ℕ) → h ≡ take 2 read → h' ≡ take 2 (read ++ bytes))
            → Puts contents (λ (u : Unit {0}). Passes answer a a' bytes) w' w'' (Ok u)
            → IsOn remaining contents answer r r'' w w'' a' h' (n + 1)
        one_more {a' = a'} u some keeps (text, put, passes) = record {
          read_all = all ∙ on.read_all;
          written_all = put.1 ∙ sym put.0 ∙ on.written_all;
          none_back = inr put.3;
          read = on.read ++ bytes;
          written = on.written ++ text;
          many = omega (arith, on.many, some, length-append on.read bytes);
          consumed = Consumes-trans _ _ _ on.read bytes on.consumed took;
          appended = Appends-trans _ _ _ on.written text on.appended put.2;
          came = came_more a' bytes text on.came passes;
          head_is = keeps on.read on.head_is;
        }

        -- nothing more was put
        pub not_more : w'' ≡ w'
            → Annotates remaining contents answer r r'' w w'' (Err fault.OutOfMemory)
        not_more same =
            rw same (
              all ∙ on.read_all,
              (
                on.written_all,
                on.none_back,
                (
                  on.read ++ bytes,
                  on.written,
                  Consumes-trans _ _ _ on.read bytes on.consumed took,
                  on.appended,
                  begins_more answer on.written on.read bytes (up_to_date on.came).begins,
                ),
              ),
            )

        -- a beginning of the block was put
        pub stopped : {a' : Annotator} (u : Unit {0}) (text : List ℕ)
            → WrotePart contents w' w'' text → Passes answer a a' bytes text
            → IsCutOff remaining contents answer r r'' w w''
        stopped {a' = a'} u text (failed, part, lost, parts, put) passes = (
          all ∙ on.read_all,
          failed,
          (
            on.read ++ bytes,
            on.written ++ part,
            Consumes-trans _ _ _ on.read bytes on.consumed took,
            Appends-trans _ _ _ on.written part on.appended put,
            inl (begins_less answer on.written part lost text (on.read ++ bytes) parts
                (up_to_date (came_more a' bytes text on.came passes)).begins),
          ),
        )

        -- what was to be put for bytes could not be
        pub not_put : {X : Type 0} (P : X → List ℕ → Type 0) (e : LogFault)
            → ((x : X) (text : List ℕ) → WrotePart contents w' w'' text → P x text
            → IsCutOff remaining contents answer r r'' w w'')
            → Puts contents P w' w'' (Err e)
            → Annotates remaining contents answer r r'' w w'' (Err e)
        not_put P fault.OutOfMemory cut puts = not_more puts
        not_put P fault.Write cut ((text, x, put, holds), error) = (cut x text put holds, error)
        not_put P fault.Closed cut ((text, x, put, holds), error) = (cut x text put holds, error)
        not_put P fault.Read cut puts = absurd puts.1
        not_put P fault.TooLong cut puts = absurd puts.1

      module _ (w'' : Output W) (all : NoneFailed r' r'')
          (took : Consumes (remaining (device_of r')) (remaining (device_of r'')) [])
          (at_end : IsAtEnd (remaining (device_of r''))) where
        -- the log is at its end, and a beginning of its last line was put
        pub cut_off : (names : LogNames) (text : List ℕ) → WrotePart contents w' w'' text
            → EndsLog answer a names text → IsCutOff remaining contents answer r r'' w w''
        cut_off names text (failed, part, lost, parts, put) ends = (
          all ∙ on.read_all,
          failed,
          (
            on.read ++ [],
            on.written ++ part,
            Consumes-trans _ _ _ on.read [] on.consumed took,
            Appends-trans _ _ _ on.written part on.appended put,
            inr (
              at_end,
              lost,
              ap (annotated answer) (append-nil on.read) ∙ sym (whole_at text names on.came ends).0
                  ∙ ap (λ l. on.written ++ l) parts ∙ sym (append_assoc on.written part lost),
            ),
          ),
        )

        -- the log is at its end, and is written to its end
        pub ended : (found : Findings) → found.head.items ≡ h
            → Puts contents (EndsLog answer a) w' w'' (Ok found.names)
            → Annotates remaining contents answer r r'' w w'' (Ok found)
        ended found head (text, put, ends) =
            let (is_annotated, are_names) = whole_at text found.names on.came ends in
            let same = sym (append-nil on.read) in (
              all ∙ on.read_all,
              put.1,
              put.3,
              (
                on.read ++ [],
                on.written ++ text,
                Consumes-trans _ _ _ on.read [] on.consumed took,
                Appends-trans _ _ _ on.written text on.appended put.2,
                (
                  at_end,
                  is_annotated ∙ ap (annotated answer) same,
                  are_names ∙ ap (λ l. (context_over answer first_context (lines l)).names) same,
                  head ∙ on.head_is ∙ ap (take 2) same,
                ),
              ),
            )

-- a log that is taken in at once, and its last line
pub whole_log : (answer : Answering) (a a' : Annotator) (log written text out : List ℕ)
    (names : LogNames) → context_in a ≡ first_context → IsOpen a [] → Passes answer a a' log written
    → EndsLog answer a' names text → out ≡ written ++ text → IsAnnotation answer log out names
whole_log answer a a' log written text out names first is_open passes ends parts =
    let came : Came answer a' written log =
    record { first = a; is_open = is_open; context = first; passes = passes } in
    let (is_annotated, are_names) = whole_at text names came ends in
    record { is_annotated = parts ∙ is_annotated; are_names = are_names }
