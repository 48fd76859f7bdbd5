-- What the first place of a byte says of lines and of words.
use Rattle.texts.proofs.Words.{Bor, cond, ◌≡◌, ℕ, zero, suc, ◌+◌, ◌<◌, Bool, true, false, List, []}
use Rattle.texts.proofs.Words.{◌∷◌, length, take, drop, refl, ap, ◌∙◌, arith, ◌==◌, slice_split}
use Rattle.texts.proofs.Words.{onto_first, false_from_ne_true, Nowhere, Passes, is_byte, lines_of}
use Rattle.texts.proofs.Words.{words_of}
use Rattle.std.proofs.lemmas.List.Splits.{slice_split-cons_yes, slice_split-cons_no}

-- words as they stand in memory
abbrev pub Words : Type 0
Words = List (Bor (List ℕ))

module _ (p : ℕ → Bool) where
  pub first_fails : (x : ℕ) (xs : List ℕ) (n : ℕ) → 0 < n → Nowhere (Passes p (x ∷ xs)) 0 n
      → p x ≡ false
  first_fails x xs n h none = false_from_ne_true (p x) (none 0 (omega arith) h)

  pub later : (x : ℕ) (xs : List ℕ) (n : ℕ) → Nowhere (Passes p (x ∷ xs)) 0 (suc n)
      → Nowhere (Passes p xs) 0 n
  later x xs n none k low high passes = none (suc k) (omega arith) (omega arith) passes

  pub split_here : (xs : List ℕ) (k : ℕ) → k < length xs → Passes p xs k → Nowhere (Passes p xs) 0 k
      → slice_split p xs ≡ take k xs ∷ slice_split p (drop (k + 1) xs)
  split_here [] k h passes none = absurd (omega arith)
  split_here (x ∷ xs) zero h passes none = slice_split-cons_yes p x xs passes
  split_here (x ∷ xs) (suc k) h passes none =
      let shift : suc (k + 1) ≡ suc k + 1 = omega arith in
      slice_split-cons_no p x xs (first_fails x xs (suc k) (omega arith) none)
      ∙ ap (onto_first x) (split_here xs k (omega arith) passes (later x xs k none))
      ∙ ap (λ n. (x ∷ take k xs) ∷ slice_split p (drop n (x ∷ xs))) shift

  pub split_nowhere : (xs : List ℕ) → Nowhere (Passes p xs) 0 (length xs)
      → slice_split p xs ≡ xs ∷ []
  split_nowhere [] none = refl
  split_nowhere (x ∷ xs) none =
      slice_split-cons_no p x xs (first_fails x xs (length (x ∷ xs)) (omega arith) none)
      ∙ ap (onto_first x) (split_nowhere xs (later x xs (length xs) none))

-- The same for lines, of which the last may lack its end.
pub line_here : (xs : List ℕ) (k : ℕ) → k < length xs → Passes (is_byte 10) xs k
    → Nowhere (Passes (is_byte 10) xs) 0 k → lines_of xs ≡ take k xs ∷ lines_of (drop (k + 1) xs)
line_here [] k h passes none = absurd (omega arith)
line_here (x ∷ xs) zero h passes none =
    ap (λ b. cond b ([] ∷ lines_of xs) (onto_first x (lines_of xs))) passes
line_here (x ∷ xs) (suc k) h passes none =
    let shift : suc (k + 1) ≡ suc k + 1 = omega arith in
    ap (λ b. cond b ([] ∷ lines_of xs) (onto_first x (lines_of xs)))
    (first_fails (is_byte 10) x xs (suc k) (omega arith) none)
    ∙ ap (onto_first x) (line_here xs k (omega arith) passes (later (is_byte 10) x xs k none))
    ∙ ap (λ n. (x ∷ take k xs) ∷ lines_of (drop n (x ∷ xs))) shift

pub line_nowhere : (xs : List ℕ) → 0 < length xs → Nowhere (Passes (is_byte 10) xs) 0 (length xs)
    → lines_of xs ≡ xs ∷ []
line_nowhere [] h none = absurd (omega arith)
line_nowhere (x ∷ []) h none =
    ap (λ b. cond b ([] ∷ []) ((x ∷ []) ∷ [])) (first_fails (is_byte 10) x [] 1 (omega arith) none)
line_nowhere (x ∷ y ∷ ys) h none =
    ap (λ b. cond b ([] ∷ lines_of (y ∷ ys)) (onto_first x (lines_of (y ∷ ys))))
    (first_fails (is_byte 10) x (y ∷ ys) (length (x ∷ y ∷ ys)) (omega arith) none)
    ∙ ap (onto_first x)
    (line_nowhere (y ∷ ys) (omega arith) (later (is_byte 10) x (y ∷ ys) (length (y ∷ ys)) none))

-- There is a first word, if only an empty one.
pub first_word : (line : List ℕ)
    → (word : List ℕ) × (words : List (List ℕ)) × (words_of line ≡ word ∷ words)
first_word [] = ([], [], refl)
first_word (x ∷ xs) =
    let (word, words, e) = first_word xs in
    elim (x == 32) as (λ b. (word : List ℕ) × (words : List (List ℕ))
    × (cond b ([] ∷ words_of xs) (onto_first x (words_of xs)) ≡ word ∷ words)) [
      | true ↦ ([], words_of xs, refl)
      | false ↦ (x ∷ word, words, ap (onto_first x) e)
    ]

pub some_word : (line : List ℕ) → 0 < length (words_of line)
some_word line = let (word, words, e) = first_word line in omega (arith, ap length e)
