-- The lines that bytes are, and what is put for them.
use Rattle.logs.proofs.Definitions.{list_any, or-true, ◌&&◌, ◌||◌, take_all, le-ltb, or_parts}
use Rattle.logs.proofs.Definitions.{list_any-append, ◌≡◌, ◌∙◌, ℕ, ◌+◌, ◌<◌, ◌≤◌, Bool, true, false}
use Rattle.logs.proofs.Definitions.{◌==◌, List, [], ◌∷◌, ◌++◌, length, take, get_or, length-append}
use Rattle.logs.proofs.Definitions.{refl, sym, ap, append_assoc, append-nil, arith, cond-false}
use Rattle.logs.proofs.Definitions.{true≢false, onto_first, eqb-true, lt-ltb, ltb-true, take_more}
use Rattle.logs.proofs.Definitions.{Nowhere, is_byte, Answering, AreWhole, IsLine, has_end, is_long}
use Rattle.logs.proofs.Definitions.{lines, annotated_lines, context_over, Adds, Ended, EndsLog}
use Rattle.logs.proofs.Definitions.{IsOpen, Passes, context_in, kept_of, put_of, Annotator}
use Rattle.logs.proofs.Definitions.{LogContext}
use Rattle.logs.proofs.KernelReportLemmas.{nothing_reported, nothing_there}
use Rattle.logs.proofs.TextLemmas.{none_up_to}
use Rattle.memchr.specs.Find.{Passes as HasByte}
use Rattle.logs.specs.AnnotatedLogs.{annotated_line, context_behind}

pub no_end_behind : (xs ys : List ℕ) → has_end xs ≡ false → has_end ys ≡ false
    → has_end (xs ++ ys) ≡ false
no_end_behind xs ys p q = rw (list_any-append (λ b. b == 10) xs ys, p) q

-- ---- lines

-- the first line
first_line : (front rest : List ℕ) → has_end front ≡ false
    → lines (front ++ 10 ∷ rest) ≡ (front ++ 10 ∷ []) ∷ lines rest
first_line [] rest unended = refl
first_line (b ∷ front) rest unended =
    let (here, behind) = or_parts (b == 10) (has_end front) unended in
    rw (here, first_line front rest behind)

-- a line that has no end
pub last_line : (b : ℕ) (bytes : List ℕ) → has_end (b ∷ bytes) ≡ false
    → lines (b ∷ bytes) ≡ (b ∷ bytes) ∷ []
last_line b [] unended = rw (or_parts (b == 10) false unended).0
last_line b (d ∷ bytes) unended =
    let (here, behind) = or_parts (b == 10) (has_end (d ∷ bytes)) unended in
    rw (here, last_line d bytes behind)

-- a line that is begun goes on
onto_some : (b : ℕ) (ls : List (List ℕ))
    → (first : List ℕ) × (more : List (List ℕ)) × (onto_first b ls ≡ (b ∷ first) ∷ more)
onto_some b [] = ([], [], refl)
onto_some b (first ∷ more) = (first, more, refl)

pub begun_line : (b : ℕ) (line rest : List ℕ) → has_end (b ∷ line) ≡ false → (first : List ℕ)
    × (more : List (List ℕ)) × (lines ((b ∷ line) ++ rest) ≡ ((b ∷ line) ++ first) ∷ more)
begun_line b [] rest unended =
    let (first, more, is) = onto_some b (lines rest) in
    (first, more, rw (or_parts (b == 10) false unended).0 is)
begun_line b (d ∷ line) rest unended =
    let (here, behind) = or_parts (b == 10) (has_end (d ∷ line)) unended in
    let (first, more, is) = begun_line d line rest behind in
    (first, more, cond-false (b == 10) _ _ here ∙ ap (onto_first b) is)

-- whole lines
pub whole_nothing : AreWhole []
whole_nothing = λ rest. refl

ended_line : (line : List ℕ) → IsLine line → lines line ≡ line ∷ []
ended_line line (front, unended, is) = rw (is, first_line front [] unended)

whole_line : (line : List ℕ) → IsLine line → AreWhole line
whole_line line (front, unended, is) = λ rest. rw (
  is,
  append_assoc front (10 ∷ []) rest,
  first_line front rest unended,
  first_line front [] unended,
)

-- a line that is open, and the bytes that end it
pub opened_line : (line bytes : List ℕ) → has_end line ≡ false → IsLine bytes
    → IsLine (line ++ bytes)
opened_line line bytes unended (front, none, is) = (
  line ++ front,
  no_end_behind line front unended none,
  ap (λ l. line ++ l) is ∙ sym (append_assoc line front (10 ∷ [])),
)

-- a line, and then others
pub line_then : (line more : List ℕ) → IsLine line → lines (line ++ more) ≡ line ∷ lines more
line_then line more is = whole_line line is more ∙ ap (λ l. l ++ lines more) (ended_line line is)

pub line_has_end : (line : List ℕ) → IsLine line → has_end line ≡ true
line_has_end line (front, unended, is) =
    ap has_end is ∙ list_any-append (λ b. b == 10) front (10 ∷ []) ∙ or-true (has_end front)

-- of bytes in which no line ends no line passes that has to have an end
pub none_ended : (p : List ℕ → Bool) (bytes : List ℕ) → has_end bytes ≡ false
    → list_any (λ l. has_end l && p l) (lines bytes) ≡ false
none_ended p [] unended = refl
none_ended p (b ∷ bytes) unended = ap (list_any (λ l. has_end l && p l)) (last_line b bytes unended)
    ∙ ap (λ e. (e && p (b ∷ bytes)) || false) unended

pub whole_then : (xs ys : List ℕ) → AreWhole xs → AreWhole ys → AreWhole (xs ++ ys)
whole_then xs ys first second = λ rest.
    rw (
      append_assoc xs ys rest,
      first (ys ++ rest),
      second rest,
      first ys,
      append_assoc (lines xs) (lines ys) (lines rest),
    )

-- what a search for an end says
pub none_ends : (bytes : List ℕ) → Nowhere (HasByte (is_byte 10) bytes) 0 (length bytes)
    → has_end bytes ≡ false
none_ends bytes none = ap has_end (sym (take_all (length bytes) bytes (omega arith)))
    ∙ none_up_to 10 bytes (length bytes) (omega arith) none

pub line_found : (xs : List ℕ) (n : ℕ) → n < length xs → HasByte (is_byte 10) xs n
    → Nowhere (HasByte (is_byte 10) xs) 0 n → IsLine (take (n + 1) xs)
line_found xs n below here none = (
  take n xs,
  none_up_to 10 xs n (omega arith) none,
  take_more xs n 0 below ∙ ap (λ b. take n xs ++ b ∷ []) (eqb-true (get_or xs n 0) 10 here),
)

-- ---- long lines

long_more : (xs ys : List ℕ) → is_long xs ≡ true → is_long (xs ++ ys) ≡ true
long_more xs ys long = let more = ltb-true 65536 (length xs) long in
    lt-ltb 65536 (length (xs ++ ys)) (omega (arith, more, length-append xs ys))

module _ (answer : Answering) where
  stays : (context : LogContext) (line : List ℕ) → is_long line ≡ true
      → annotated_line answer context line ≡ line
  unfolding annotated_line
  stays context line long = rw long

  passed_by : (context : LogContext) (line : List ℕ) → is_long line ≡ true
      → context_behind answer context line ≡ context
  unfolding context_behind
  passed_by context line long = rw long

  -- lines, and then more
  pub lines_then : (context : LogContext) (xs ys : List (List ℕ))
      → annotated_lines answer context (xs ++ ys) ≡ annotated_lines answer context xs
      ++ annotated_lines answer (context_over answer context xs) ys
  lines_then context [] ys = refl
  lines_then context (x ∷ xs) ys =
      rw (lines_then (context_behind answer context x) xs ys, append_assoc)

  pub context_then : (context : LogContext) (xs ys : List (List ℕ))
      → context_over answer context (xs ++ ys)
      ≡ context_over answer (context_over answer context xs) ys
  context_then context [] ys = refl
  context_then context (x ∷ xs) ys = context_then (context_behind answer context x) xs ys

  -- what was put of a line that is open begins what is put for it, whatever comes behind
  pub put_begins : (context : LogContext) (line rest : List ℕ) → has_end line ≡ false
      → (behind : List ℕ)
      × (annotated_lines answer context (lines (line ++ rest)) ≡ put_of line ++ behind)
  put_begins context line rest unended = either line unended (is_long line) refl
    where
      either : (line : List ℕ) → has_end line ≡ false → (t : Bool) → is_long line ≡ t
          → (behind : List ℕ)
          × (annotated_lines answer context (lines (line ++ rest)) ≡ put_of line ++ behind)
      either line unended false short =
          (annotated_lines answer context (lines (line ++ rest)), rw short)
      either [] unended true long = absurd (true≢false (sym long))
      either (b ∷ line) unended true long =
          let (first, more, is) = begun_line b line rest unended in
          let whole = (b ∷ line) ++ first in (
            first ++ annotated_lines answer (context_behind answer context whole) more,
            rw (long, is, stays context whole (long_more (b ∷ line) first long))
                (append_assoc (b ∷ line) first _),
          )

  -- nothing is passed
  pub passes_nothing : (a : Annotator) → Passes answer a a [] []
  passes_nothing a line is_open = record {
    passed = [];
    line' = line;
    parts = append-nil line;
    whole = whole_nothing;
    is_open = is_open;
    context = refl;
    put = append-nil (put_of line);
  }

  -- bytes, and then more
  pub then_passes : (a a' a'' : Annotator) (bytes more text text' : List ℕ)
      → Passes answer a a' bytes text → Passes answer a' a'' more text'
      → Passes answer a a'' (bytes ++ more) (text ++ text')
  then_passes a a' a'' bytes more text text' first second line is_open =
      let p = first line is_open in
      let q = second p.line' p.is_open in
      record {
        passed = p.passed ++ q.passed;
        line' = q.line';
        parts = rw (
          append_assoc p.passed q.passed q.line',
          ← q.parts,
          ← append_assoc line bytes more,
          p.parts,
        ) (append_assoc p.passed p.line' more);
        whole = whole_then p.passed q.passed p.whole q.whole;
        is_open = q.is_open;
        context = rw (
          p.whole q.passed,
          context_then (context_in a) (lines p.passed) (lines q.passed),
          ← p.context,
        ) q.context;
        put =
            rw (
              p.whole q.passed,
              lines_then (context_in a) (lines p.passed) (lines q.passed),
              ← p.context,
              append_assoc,
              ← q.put,
              ← append_assoc (put_of line) text text',
              p.put,
            )
            (append_assoc (annotated_lines answer (context_in a) (lines p.passed)) (put_of p.line')
            text');
      }

  pub adds_nothing : (a : Annotator) (out : List ℕ) → Adds out out (Passes answer a a [])
  adds_nothing a out = ([], sym (append-nil out), passes_nothing a)

  pub then_adds : (a a' a'' : Annotator) (bytes more out out' out'' : List ℕ)
      → Adds out out' (Passes answer a a' bytes) → Adds out' out'' (Passes answer a' a'' more)
      → Adds out out'' (Passes answer a a'' (bytes ++ more))
  then_adds a a' a'' bytes more out out' out'' (text, put, first) (text', put', second) = (
    text ++ text',
    put' ∙ ap (λ l. l ++ text') put ∙ append_assoc out text text',
    then_passes a a' a'' bytes more text text' first second,
  )

  -- a line ends that is open, with this text
  line_ends : (a a' : Annotator) (bytes text out out' : List ℕ) → IsLine bytes → a'.is_long ≡ false
      → out' ≡ out ++ text
      → ((line : List ℕ) → IsOpen a line
      → (a'.begun.items ≡ [])
      × (context_in a' ≡ context_behind answer (context_in a) (line ++ bytes))
      × (put_of line ++ text ≡ annotated_line answer (context_in a) (line ++ bytes)))
      → Adds out out' (Passes answer a a' bytes)
  line_ends a a' bytes text out out' (front, unended, is) short' put each = (text, put, passes)
    where
      passes : Passes answer a a' bytes text
      passes line is_open =
          let (none, context, same) = each line is_open in
          let whole = line ++ bytes in
          let is_line : IsLine whole = opened_line line bytes is_open.no_end (front, unended, is) in
          let alone = ended_line whole is_line in
          record {
            passed = whole;
            line' = [];
            parts = sym (append-nil whole);
            whole = whole_line whole is_line;
            is_open = record { no_end = refl; long = short'; kept = none };
            context = rw alone context;
            put = same ∙ sym (append-nil _ ∙ ap (annotated_lines answer (context_in a)) alone
                ∙ append-nil (annotated_line answer (context_in a) whole));
          }

  pub long_ends : (a a' : Annotator) (bytes out out' : List ℕ) → a.is_long ≡ true → IsLine bytes
      → a'.context ≡ a.context → a'.is_long ≡ false → a'.begun.items ≡ a.begun.items
      → out' ≡ out ++ bytes → Adds out out' (Passes answer a a' bytes)
  long_ends a a' bytes out out' long is_line context short' kept put =
      line_ends a a' bytes bytes out out' is_line short' put (λ line is_open.
      let line_long : is_long line ≡ true = sym is_open.long ∙ long in
      let whole_long = long_more line bytes line_long in (
        kept ∙ (rw line_long at is_open.kept),
        context ∙ sym (passed_by (context_in a) (line ++ bytes) whole_long),
        rw line_long (sym (stays (context_in a) (line ++ bytes) whole_long)),
      ))

  pub short_ends : (a a' : Annotator) (bytes whole out out' : List ℕ) → a.is_long ≡ false
      → IsLine bytes → whole ≡ a.begun.items ++ bytes → a'.context
      ≡ context_behind answer a.context whole → a'.is_long ≡ false → a'.begun.items ≡ []
      → out' ≡ out ++ annotated_line answer a.context whole
      → Adds out out' (Passes answer a a' bytes)
  short_ends a a' bytes whole out out' short is_line all context short' none put =
      line_ends a a' bytes (annotated_line answer a.context whole) out out' is_line short' put
      (λ line is_open.
      let line_short : is_long line ≡ false = sym is_open.long ∙ short in
      let same : whole ≡ line ++ bytes =
      all ∙ ap (λ l. l ++ bytes) (rw line_short at is_open.kept) in (
        none,
        context ∙ ap (context_behind answer a.context) same,
        rw line_short (ap (annotated_line answer a.context) same),
      ))

  -- a line goes on with bytes that have no end, and this text
  line_goes_on : (a a' : Annotator) (bytes text out out' : List ℕ) → has_end bytes ≡ false
      → a'.context ≡ a.context → out' ≡ out ++ text
      → ((line : List ℕ) → IsOpen a line → (a'.is_long ≡ is_long (line ++ bytes)) × (a'.begun.items
      ≡ kept_of (line ++ bytes)) × (put_of line ++ text ≡ put_of (line ++ bytes)))
      → Adds out out' (Passes answer a a' bytes)
  line_goes_on a a' bytes text out out' unended context put each = (text, put, passes)
    where
      passes : Passes answer a a' bytes text
      passes line is_open =
          let (long, kept, same) = each line is_open in
          record {
            passed = [];
            line' = line ++ bytes;
            parts = refl;
            whole = whole_nothing;
            is_open = record {
              no_end = no_end_behind line bytes is_open.no_end unended;
              long = long;
              kept = kept;
            };
            context = context;
            put = same;
          }

  pub long_goes_on : (a : Annotator) (bytes out out' : List ℕ) → a.is_long ≡ true
      → has_end bytes ≡ false → out' ≡ out ++ bytes → Adds out out' (Passes answer a a bytes)
  long_goes_on a bytes out out' long unended put =
      line_goes_on a a bytes bytes out out' unended refl put (λ line is_open.
      let line_long : is_long line ≡ true = sym is_open.long ∙ long in
      let whole_long = long_more line bytes line_long in (
        long ∙ sym whole_long,
        rw whole_long (rw line_long at is_open.kept),
        rw (line_long, whole_long),
      ))

  -- one that stays short, and one that gets too long
  pub context_stays : (a a' : Annotator) (bytes out : List ℕ) → a.is_long ≡ false → has_end bytes
      ≡ false → a'.context ≡ a.context → a'.is_long ≡ false → a'.begun.items ≡ a.begun.items
      ++ bytes → length a'.begun.items ≤ 65536 → Adds out out (Passes answer a a' bytes)
  context_stays a a' bytes out short unended context short' more low =
      line_goes_on a a' bytes [] out out unended context (sym (append-nil out)) (λ line is_open.
      let line_short : is_long line ≡ false = sym is_open.long ∙ short in
      let same : a'.begun.items ≡ line ++ bytes =
      more ∙ ap (λ l. l ++ bytes) (rw line_short at is_open.kept) in
      let whole_short : is_long (line ++ bytes) ≡ false =
      ap is_long (sym same) ∙ le-ltb 65536 (length a'.begun.items) low in
      (short' ∙ sym whole_short, rw whole_short same, rw (line_short, whole_short)))

  pub gets_long : (a a' : Annotator) (bytes whole out out' : List ℕ) → a.is_long ≡ false
      → has_end bytes ≡ false → whole ≡ a.begun.items ++ bytes → 65536 < length whole
      → a'.context ≡ a.context → a'.is_long ≡ true → a'.begun.items ≡ []
      → out' ≡ out ++ whole → Adds out out' (Passes answer a a' bytes)
  gets_long a a' bytes whole out out' short unended all long context long' none put =
      line_goes_on a a' bytes whole out out' unended context put (λ line is_open.
      let line_short : is_long line ≡ false = sym is_open.long ∙ short in
      let same : whole ≡ line ++ bytes =
      all ∙ ap (λ l. l ++ bytes) (rw line_short at is_open.kept) in
      let whole_long : is_long (line ++ bytes) ≡ true =
      ap is_long (sym same) ∙ lt-ltb 65536 (length whole) long in
      (long' ∙ sym whole_long, rw whole_long none, rw (line_short, whole_long) same))

  -- nothing is put for no bytes
  nothing_put : (context : LogContext) → (annotated_line answer context [] ≡ [])
      × ((context_behind answer context []).names ≡ context.names)
  unfolding annotated_line context_behind
  nothing_put context = (refl, nothing_reported answer [] context.names nothing_there)

  -- no more bytes come
  pub last_is_put : (a : Annotator) (context : LogContext) (begun text : List ℕ)
      → begun ≡ a.begun.items → context ≡ context_behind answer a.context begun
      → text ≡ annotated_line answer a.context begun → EndsLog answer a context.names text
  last_is_put a context begun text kept context_is put =
      λ line is_open. ended line is_open (is_long line) refl
    where
      -- of what is kept
      behind : (line : List ℕ) → begun ≡ line
          → (context.names ≡ (context_behind answer a.context line).names)
          × (text ≡ annotated_line answer a.context line)
      behind line same = (
        ap (λ h. h.names) (context_is ∙ ap (context_behind answer a.context) same),
        put ∙ ap (annotated_line answer a.context) same,
      )

      ended : (line : List ℕ) → IsOpen a line → (t : Bool) → is_long line ≡ t
          → Ended answer a line context.names text
      ended [] is_open t long =
          let (names, is) = behind [] (kept ∙ is_open.kept) in
          record {
            names_are = names ∙ (nothing_put a.context).1;
            put = is ∙ (nothing_put a.context).0;
          }
      ended (b ∷ line) is_open true long =
          let one = last_line b line is_open.no_end in
          let (names, is) = behind [] (kept ∙ (rw long at is_open.kept)) in
          record {
            names_are = names ∙ (nothing_put a.context).1
                ∙ ap (λ h. h.names) (sym (ap (context_over answer (context_in a)) one
                ∙ passed_by (context_in a) (b ∷ line) long));
            put =
                rw (long, is, (nothing_put a.context).0, one, stays (context_in a) (b ∷ line) long);
          }
      ended (b ∷ line) is_open false short =
          let one = last_line b line is_open.no_end in
          let (names, is) = behind (b ∷ line) (kept ∙ (rw short at is_open.kept)) in
          record {
            names_are =
                names ∙ ap (λ h. h.names) (sym (ap (context_over answer (context_in a)) one));
            put = rw (short, one, append-nil) is;
          }
