-- Lines that are cut off, and a line that is open.
use Rattle.recordings.proofs.Words.{◌≡◌, ◌∙◌, ◌++◌, ◌<◌, ◌∷◌, ◌==◌, ℕ, List, [], Bool, true, false}
use Rattle.recordings.proofs.Words.{refl, sym, ap, inl, inr, arith, length, map, append_assoc}
use Rattle.recordings.proofs.Words.{append-nil, AreWhole, IsLine, has_end, is_long, lines, said_by}
use Rattle.recordings.proofs.Words.{said_in, IsOpen, TakesBlock, kept_with, length-append, cond}
use Rattle.recordings.proofs.Words.{onto_first, or_parts, ltb-true, lt-ltb, true≢false}
use Rattle.logs.proofs.LineLemmas.{line_then, last_line, no_end_behind, whole_nothing, whole_then}

-- a line, and then others
pub cut_off : (rest line more : List ℕ) → IsLine line → rest ≡ line ++ more
    → lines rest ≡ line ∷ lines more
cut_off rest line more is parts = ap lines parts ∙ line_then line more is

-- a line without an end
pub open_line : (rest : List ℕ) → has_end rest ≡ false → 0 < length rest → lines rest ≡ rest ∷ []
open_line [] unended some = absurd (omega (arith, some))
open_line (b ∷ bytes) unended some = last_line b bytes unended

whole_line : (line : List ℕ) → IsLine line → AreWhole line
whole_line line is = λ rest. line_then line rest is
    ∙ ap (λ ls. ls ++ lines rest) (sym (ap lines (sym (append-nil line)) ∙ line_then line [] is))

-- lines that are whole, and one more
pub one_more_whole : (front line : List ℕ) → AreWhole front → IsLine line → AreWhole (front ++ line)
one_more_whole front line whole is = whole_then front line whole (whole_line line is)

-- ---- a line that is open, and the bytes that end it

-- the first line is the one that was open, with the first of the bytes
opened : (line bytes first : List ℕ) (more : List (List ℕ)) → has_end line ≡ false
    → lines bytes ≡ first ∷ more → lines (line ++ bytes) ≡ (line ++ first) ∷ more
opened [] bytes first more unended is = is
opened (b ∷ line) bytes first more unended is =
    let (here, behind) = or_parts (b == 10) (has_end line) unended in
    ap (λ t. cond t ((b ∷ []) ∷ lines (line ++ bytes)) (onto_first b (lines (line ++ bytes)))) here
    ∙ ap (onto_first b) (opened line bytes first more behind is)

some_line : (bytes : List ℕ) → 0 < length bytes
    → (first : List ℕ) × (more : List (List ℕ)) × (lines bytes ≡ first ∷ more)
some_line [] some = absurd (omega (arith, some))
some_line (b ∷ bytes) some = by b (lines bytes) (b == 10)
  where
    by : (b : ℕ) (ls : List (List ℕ)) (t : Bool) → (first : List ℕ) × (more : List (List ℕ))
        × (cond t ((b ∷ []) ∷ ls) (onto_first b ls) ≡ first ∷ more)
    by b ls true = (b ∷ [], ls, refl)
    by b [] false = (b ∷ [], [], refl)
    by b (l ∷ ls) false = (b ∷ l, ls, refl)

whole_opened : (line front : List ℕ) → has_end line ≡ false → 0 < length front → AreWhole front
    → AreWhole (line ++ front)
whole_opened line front unended some whole = λ rest.
    let (first, more, is) = some_line front some in
    let here : lines (front ++ rest) ≡ first ∷ (more ++ lines rest) =
    whole rest ∙ ap (λ ls. ls ++ lines rest) is in
    ap lines (append_assoc line front rest)
    ∙ opened line (front ++ rest) first (more ++ lines rest) unended here
    ∙ ap (λ ls. ls ++ lines rest) (sym (opened line front first more unended is))

-- ---- lines that are too long

long_more : (xs ys : List ℕ) → is_long xs ≡ true → is_long (xs ++ ys) ≡ true
long_more xs ys long = let more = ltb-true 65536 (length xs) long in
    lt-ltb 65536 (length (xs ++ ys)) (omega (arith, more, length-append xs ys))

says_nothing : (line line' : List ℕ) → is_long line ≡ true → is_long line' ≡ true
    → said_by line ≡ said_by line'
says_nothing line line' long long' = rw (long, long') refl

same_said : (begun line front : List ℕ) → 0 < length front → IsOpen begun line
    → said_in (begun ++ front) ≡ said_in (line ++ front)
same_said begun line front some o =
    let (first, more, is) = some_line front some in
    elim o.kept [
      | inl same ↦ ap (λ (l : List ℕ). said_in (l ++ front)) same
      | inr long ↦ ap (map said_by) (opened begun front first more o.none_kept is)
          ∙ ap (λ s. s ∷ map said_by more) (says_nothing (begun ++ first) (line ++ first)
          (long_more begun first long.0) (long_more line first long.1))
          ∙ ap (map said_by) (sym (opened line front first more o.no_end is))
    ]

-- ---- a block is taken in

pub takes_lines : (begun line block front rest text : List ℕ) → IsOpen begun line → 0 < length front
    → block ≡ front ++ rest → AreWhole front → has_end rest ≡ false → text ≡ begun ++ front
    → TakesBlock rest line block text
takes_lines begun line block front rest text o some parts whole unended is = (
  line ++ front,
  rest,
  record {
    parts = ap (λ b. line ++ b) parts ∙ sym (append_assoc line front rest);
    whole = whole_opened line front o.no_end some whole;
    no_end = unended;
  },
  record { no_end = unended; none_kept = unended; kept = inl refl },
  ap said_in is ∙ same_said begun line front some o,
)

kept_so : (begun line bytes : List ℕ) (t : Bool) → is_long begun ≡ t → IsOpen begun line
    → has_end bytes ≡ false → IsOpen (cond t begun (begun ++ bytes)) (line ++ bytes)
kept_so begun line bytes true long o unended = record {
  no_end = no_end_behind line bytes o.no_end unended;
  none_kept = o.none_kept;
  kept = elim o.kept [
    | inl same ↦ inr (long, long_more line bytes (ap is_long (sym same) ∙ long))
    | inr both ↦ inr (long, long_more line bytes both.1)
  ];
}
kept_so begun line bytes false short o unended = record {
  no_end = no_end_behind line bytes o.no_end unended;
  none_kept = no_end_behind begun bytes o.none_kept unended;
  kept = elim o.kept [
    | inl same ↦ inl (ap (λ l. l ++ bytes) same)
    | inr both ↦ absurd (true≢false (sym both.0 ∙ short))
  ];
}

pub takes_none : (begun begun' line block : List ℕ) → IsOpen begun line → has_end block ≡ false
    → begun' ≡ kept_with begun block → TakesBlock begun' line block []
takes_none begun begun' line block o unended is = (
  [],
  line ++ block,
  record {
    parts = refl;
    whole = whole_nothing;
    no_end = no_end_behind line block o.no_end unended;
  },
  rw is (kept_so begun line block (is_long begun) refl o unended),
  refl,
)

-- what is kept of a line says what the line says
pub same_open : (begun line : List ℕ) → IsOpen begun line → said_in begun ≡ said_in line
same_open begun line o = elim o.kept [
  | inl same ↦ ap said_in same
  | inr long ↦ ap (map said_by) (open_line begun o.none_kept (some_of begun long.0))
      ∙ ap (λ s. s ∷ []) (says_nothing begun line long.0 long.1)
      ∙ ap (map said_by) (sym (open_line line o.no_end (some_of line long.1)))
]
  where
    some_of : (xs : List ℕ) → is_long xs ≡ true → 0 < length xs
    some_of xs long = let more = ltb-true 65536 (length xs) long in omega (arith, more)
