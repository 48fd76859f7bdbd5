-- Lines that are taken, or skipped for a cause, one after the other.
use Rattle.listing.proofs.Words.{◌≡◌, ℕ, zero, suc, ◌==◌, ◌+◌, ◌<◌, ◌≤◌, Bool, false, cond, List}
use Rattle.listing.proofs.Words.{[], ◌∷◌, ◌++◌, length, None, Some, Result, Ok, Err, refl, sym, ap}
use Rattle.listing.proofs.Words.{◌∙◌, arith, length-append, slice_get, slice_index, sum}
use Rattle.listing.proofs.Words.{cons_option, onto_first, range_with_len, result_ok, eq-eqb, ne_eqb}
use Rattle.listing.proofs.Words.{length-map, count_by-le-length, sum_by-append, sum_by-cons}
use Rattle.listing.proofs.Words.{sum_by-set, lines_of, counts_by, is_skipped_for, one_more_at}
use Rattle.listing.proofs.Words.{skipped_for, taken_by}
use Rattle.std.proofs.Common.{true, map, Option}
use Rattle.std.proofs.lemmas.Option.{slice_get_within}
use Rattle.facts.proofs.Lists.{length-onto_first, moved_over, none_given_more, one_given_more}

-- ---- counts of which one is one more

module _ {E : Type 0} (place : E → ℕ) (f g : E → ℕ) where
  same_counts : (causes : List E) → ((cause : E) → g cause ≡ f cause) → map g causes ≡ map f causes
  same_counts [] same = refl
  same_counts (x ∷ xs) same =
      ap (λ n. n ∷ map g xs) (same x) ∙ ap (λ ns. f x ∷ ns) (same_counts xs same)

  module _ (k : ℕ)
      (raised : (cause : E) → g cause ≡ cond (k == place cause) (f cause + 1) (f cause)) where
    not_raised : (x : E) (a : ℕ) → place x ≡ a → (k ≡ a → ⊥) → g x ≡ f x
    not_raised x a at other =
        raised x ∙ ap (λ b. cond b (f x + 1) (f x)) (ne_eqb k (place x) (λ is. other (is ∙ at)))

    kept_above : (causes : List E) (a n : ℕ) → map place causes ≡ range_with_len a n → k < a
        → map g causes ≡ map f causes
    kept_above [] a n e low = refl
    kept_above (x ∷ xs) a zero e low = absurd (cc)
    kept_above (x ∷ xs) a (suc n) e low =
        let at : place x ≡ a = cc in
        let rest : map place xs ≡ range_with_len (a + 1) n = cc in
        ap (λ m. m ∷ map g xs) (not_raised x a at (λ is. absurd (omega (arith, is, low))))
        ∙ ap (λ ms. f x ∷ ms) (kept_above xs (a + 1) n rest (omega (arith, low)))

    one_raised : (causes : List E) (a n j : ℕ) → map place causes ≡ range_with_len a n → k ≡ a + j
        → map g causes ≡ one_more_at j (map f causes)
    one_raised [] a n j e is = refl
    one_raised (x ∷ xs) a zero j e is = absurd (cc)
    one_raised (x ∷ xs) a (suc n) zero e is =
        let at : place x ≡ a = cc in
        let rest : map place xs ≡ range_with_len (a + 1) n = cc in
        let here : k ≡ place x = omega (arith, is, at) in
        ap (λ m. m ∷ map g xs)
        (raised x ∙ ap (λ b. cond b (f x + 1) (f x)) (eq-eqb k (place x) here))
        ∙ ap (λ ms. (f x + 1) ∷ ms) (kept_above xs (a + 1) n rest (omega (arith, is)))
    one_raised (x ∷ xs) a (suc n) (suc j) e is =
        let at : place x ≡ a = cc in
        let rest : map place xs ≡ range_with_len (a + 1) n = cc in
        ap (λ m. m ∷ map g xs) (not_raised x a at (λ here. absurd (omega (arith, is, here))))
        ∙ ap (λ ms. f x ∷ ms) (one_raised xs (a + 1) n j rest (omega (arith, is)))

few_at : {E : Type 0} (f : E → ℕ) (m : ℕ) → ((cause : E) → f cause ≤ m) → (causes : List E) (k : ℕ)
    → slice_index (map f causes) k ≤ m
few_at f m few [] k = omega arith
few_at f m few (x ∷ xs) zero = few x
few_at f m few (x ∷ xs) (suc k) = few_at f m few xs k

-- ---- lines are no more than bytes

lines_few : (bytes : List ℕ) → length (lines_of bytes) ≤ length bytes
lines_few [] = omega arith
lines_few (b ∷ bytes) =
    elim (b == 10) as (λ t.
    length (cond t ([] ∷ lines_of bytes) (onto_first b (lines_of bytes))) ≤ suc (length bytes)) [
      | true ↦ omega (arith, lines_few bytes)
      | false ↦ omega (arith, length-onto_first b (lines_of bytes), lines_few bytes)
    ]

-- lines that are taken are no more than all
one_at_most : {T : Type 0} (o : Option T) (xs : List T) (n : ℕ) → length xs ≤ n
    → length (cons_option o xs) ≤ suc n
one_at_most None xs n few = omega (arith, few)
one_at_most (Some t) xs n few = omega (arith, few)

few_taken : {T E : Type 0} (said : List ℕ → Result T E) (lines : List (List ℕ))
    → length (taken_by said lines) ≤ length lines
few_taken said [] = omega arith
few_taken said (line ∷ lines) =
    one_at_most (result_ok (said line)) (taken_by said lines) (length lines) (few_taken said lines)

-- ---- one more line

module _ {T E : Type 0} (place : E → ℕ) (causes : List E) (said : List ℕ → Result T E) where
  abbrev counts : List (List ℕ) → List ℕ
  counts lines = counts_by place causes said lines

  skipped_more : (done : List (List ℕ)) (line : List ℕ) (of_line : Result T E) (cause : E)
      → said line ≡ of_line
      → skipped_for place said (done ++ line ∷ []) cause
      ≡ cond (is_skipped_for place cause of_line) 1 0 + skipped_for place said done cause
  skipped_more done line of_line cause is =
      let more =
      sum_by-append (λ l. cond (is_skipped_for place cause (said l)) 1 0) done (line ∷ []) in
      let this = ap {B = ℕ} (λ s. cond (is_skipped_for place cause s) 1 0) is in
      omega (arith, more, this)

  skipped_first : (line : List ℕ) (lines : List (List ℕ)) (of_line : Result T E) (cause : E)
      → said line ≡ of_line
      → skipped_for place said (line ∷ lines) cause
      ≡ cond (is_skipped_for place cause of_line) 1 0 + skipped_for place said lines cause
  skipped_first line lines of_line cause is =
      sum_by-cons (λ l. cond (is_skipped_for place cause (said l)) 1 0) line lines
      ∙ ap (λ s. cond (is_skipped_for place cause s) 1 0 + skipped_for place said lines cause) is

  -- no count is above the number of lines
  count_few : (lines : List (List ℕ)) (k : ℕ) → slice_index (counts lines) k ≤ length lines
  count_few lines k =
      few_at (skipped_for place said lines) (length lines) (λ cause.
      count_by-le-length (λ line. is_skipped_for place cause (said line)) lines) causes k

  none_yet : (xs : List E) → sum (map (skipped_for place said []) xs) ≡ 0
  none_yet [] = refl
  none_yet (x ∷ xs) =
      omega (arith, sum_by-cons (λ n. n) 0 (map (skipped_for place said []) xs), none_yet xs)

  module _ (n : ℕ) (in_order : map place causes ≡ range_with_len 0 n) where
    taken_leaves : (before after : List (List ℕ)) → ((cause : E)
        → skipped_for place said after cause ≡ 0 + skipped_for place said before cause)
        → counts after ≡ counts before
    taken_leaves before after same =
        same_counts place (skipped_for place said before) (skipped_for place said after) causes
        (λ cause. let e = same cause in omega (arith, e))

    skipped_raises : (before after : List (List ℕ)) (cause : E)
        → ((other : E) → skipped_for place said after other
        ≡ cond (place cause == place other) 1 0 + skipped_for place said before other)
        → counts after ≡ one_more_at (place cause) (counts before)
    skipped_raises before after cause more =
        one_raised place (skipped_for place said before) (skipped_for place said after)
        (place cause)
        (λ other. raised_by (place cause == place other) (skipped_for place said after other)
        (skipped_for place said before other) (more other))
        causes 0 n (place cause) in_order (omega arith)
      where
        raised_by : (b : Bool) (m k : ℕ) → m ≡ cond b 1 0 + k → m ≡ cond b (k + 1) k
        raised_by true m k e = omega arith
        raised_by false m k e = omega arith

    once : (at_place : (cause : E) → slice_get causes (place cause) ≡ Some cause) (line : List ℕ)
        (lines : List (List ℕ)) (of_line : Result T E) → said line ≡ of_line
        → length (cons_option (result_ok of_line) (taken_by said lines))
        + sum (counts (line ∷ lines)) ≡ suc (length (taken_by said lines) + sum (counts lines))
    once at_place line lines (Ok taken) is =
        omega (
          arith,
          ap sum (taken_leaves lines (line ∷ lines)
              (λ cause. skipped_first line lines (Ok taken) cause is)),
        )
    once at_place line lines (Err cause) is =
        let more = skipped_raises lines (line ∷ lines) cause
        (λ other. skipped_first line lines (Err cause) other is) in
        let low : place cause < length (counts lines) = omega (
          arith,
          slice_get_within causes (place cause) cause (at_place cause),
          length-map causes (skipped_for place said lines),
        ) in
        omega (
          arith,
          ap sum more,
          sum_by-set (λ n. n) (counts lines) (place cause)
              (slice_index (counts lines) (place cause) + 1) 0 low,
        )

    -- each line is taken, or is skipped for one cause
    pub each_once : ((cause : E) → slice_get causes (place cause) ≡ Some cause)
        → (lines : List (List ℕ)) → length (taken_by said lines) + sum (counts lines) ≡ length lines
    each_once at_place [] = omega (arith, none_yet causes)
    each_once at_place (line ∷ lines) =
        once at_place line lines (said line) refl ∙ ap suc (each_once at_place lines)

-- ---- the text as far as it is read

-- the lines gone through, what was taken of them, and how many were skipped
abbrev pub IsReadTo : {T E : Type 0} → (E → ℕ) → List E → (List ℕ → Result T E) → List ℕ → List ℕ
    → List T → List ℕ → Type 0
IsReadTo place causes said text rest taken counted =
    (done : List (List ℕ)) × (done ++ lines_of rest ≡ lines_of text) × (taken ≡ taken_by said done)
    × (counted ≡ counts_by place causes said done)

module _ {T E : Type 0} (place : E → ℕ) (causes : List E) (said : List ℕ → Result T E)
    (text rest after line : List ℕ) (taken : List T) (counted : List ℕ)
    (read : IsReadTo place causes said text rest taken counted)
    (first : lines_of rest ≡ line ∷ lines_of after) where
  pub counts_low : (k : ℕ) → slice_index counted k + 1 ≤ length text
  counts_low k =
      let (done, joined, is_taken, is_counted) = read in
      omega (
        arith,
        count_few place causes said done k,
        lines_few text,
        ap length joined,
        length-append done (lines_of rest),
        ap length first,
        ap (λ ns. slice_index ns k) is_counted,
      )

  pub taken_low : length taken + 1 ≤ length text
  taken_low =
      let (done, joined, is_taken, is_counted) = read in
      omega (
        arith,
        few_taken said done,
        lines_few text,
        ap length joined,
        length-append done (lines_of rest),
        ap length first,
        ap length is_taken,
      )

  module _ (n : ℕ) (in_order : map place causes ≡ range_with_len 0 n) where
    pub one_taken : (entry : T) → said line ≡ Ok entry
        → IsReadTo place causes said text after (taken ++ entry ∷ []) counted
    one_taken entry is =
        let (done, joined, is_taken, is_counted) = read in (
          done ++ line ∷ [],
          moved_over (lines_of text) done (lines_of rest) (lines_of after) line joined first,
          ap (λ ts. ts ++ entry ∷ []) is_taken
              ∙ sym (one_given_more (λ l. result_ok (said l)) done line entry (ap result_ok is)),
          is_counted ∙ sym (taken_leaves place causes said n in_order done (done ++ line ∷ [])
              (λ cause. skipped_more place causes said done line (Ok entry) cause is)),
        )

    pub one_skipped : (cause : E) → said line ≡ Err cause
        → IsReadTo place causes said text after taken (one_more_at (place cause) counted)
    one_skipped cause is =
        let (done, joined, is_taken, is_counted) = read in (
          done ++ line ∷ [],
          moved_over (lines_of text) done (lines_of rest) (lines_of after) line joined first,
          is_taken ∙ sym (none_given_more (λ l. result_ok (said l)) done line (ap result_ok is)),
          ap (one_more_at (place cause)) is_counted
              ∙ sym (skipped_raises place causes said n in_order done (done ++ line ∷ []) cause
              (λ other. skipped_more place causes said done line (Err cause) other is)),
        )
