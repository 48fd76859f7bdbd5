-- What lists of stores change and what they leave.
use Rattle.word_layout.proofs.Words.{◌≡◌, ◌≢◌, ℕ, ◌<◌, List, [], ◌∷◌, ◌++◌, length, refl, sym, ◌∙◌}
use Rattle.word_layout.proofs.Words.{ap, subst, arith, length-set, get_or-set_other}
use Rattle.word_layout.proofs.Words.{get_or-set_same, slice_set, AllByRecursion, cases_eq, cases_lt}
use Rattle.word_layout.proofs.Words.{set_past, Store, at, words_after, words_after_all, suc, ◌+◌}
use Rattle.word_layout.proofs.Words.{◌-◌, ◌≤◌, take, append_assoc, replicate, length-take-le}
use Rattle.word_layout.proofs.Words.{take_more}
use Rattle.std.proofs.Math.Seq.{set-append_seam}
use Rattle.std.proofs.lemmas.Bool.Decides.{nat_tests}

-- two memories agree on the words of a kind
abbrev pub Agree : (ℕ → Type 0) → List ℕ → List ℕ → Type 0
Agree P m m' = (w : ℕ) → P w → at m' w ≡ at m w

pub length_after : (m : List ℕ) (ss : List Store) → length (words_after_all m ss) ≡ length m
length_after m [] = refl
length_after m (s ∷ ss) = length_after (words_after m s) ss ∙ length-set m s.word s.value

pub after_append : (m : List ℕ) (xs ys : List Store)
    → words_after_all m (xs ++ ys) ≡ words_after_all (words_after_all m xs) ys
after_append m [] ys = refl
after_append m (x ∷ xs) ys = after_append (words_after m x) xs ys

-- a store gives its word its value, and no other
pub at_stored : (m : List ℕ) (i v : ℕ) → i < length m → at (slice_set m i v) i ≡ v
at_stored m i v lt = get_or-set_same m i v 0 lt

pub at_other : (m : List ℕ) (i v w : ℕ) → w ≢ i → at (slice_set m i v) w ≡ at m w
at_other m i v w ne = get_or-set_other m i w v 0 ne

-- stores elsewhere change nothing; the same stores on words that agree leave words that agree
pub untouched : (P : ℕ → Type 0) (m : List ℕ) (ss : List Store)
    → AllByRecursion (λ (s : Store). P s.word → ⊥) ss → Agree P m (words_after_all m ss)
untouched P m [] h w p = refl
untouched P m (s ∷ ss) h w p =
    grind (arith, nat_tests, untouched P (words_after m s) ss h.1 w p, get_or-set_other)

pub same_store : (m m' : List ℕ) (i v w : ℕ) → length m' ≡ length m → at m' w ≡ at m w
    → at (slice_set m' i v) w ≡ at (slice_set m i v) w
same_store m m' i v w el e =
    grind (arith, nat_tests, at_stored, set_past, cases_lt, at_other, cases_eq)

pub agree_after : (P : ℕ → Type 0) (m m' : List ℕ) (ss : List Store) → length m' ≡ length m
    → Agree P m m' → Agree P (words_after_all m ss) (words_after_all m' ss)
agree_after P m m' [] el h = h
agree_after P m m' (s ∷ ss) el h =
    agree_after P (words_after m s) (words_after m' s) ss
    (length-set m' s.word s.value ∙ el ∙ sym (length-set m s.word s.value))
    (λ w p. same_store m m' s.word s.value w el (h w p))

-- words copied up to the number w, the others 0: and then the next one
pub copy_next : (k w : ℕ) (words : List ℕ) → w < length words → length words ≤ k
    → slice_set (take w words ++ replicate (k - w) 0) w (at words w)
    ≡ take (w + 1) words ++ replicate (k - (w + 1)) 0
copy_next k w words within fits =
    let rest : List ℕ = replicate (k - (w + 1)) 0 in
    let one : replicate (k - w) 0 ≡ 0 ∷ rest =
    ap (λ j. replicate j 0) (let e : k - w ≡ suc (k - (w + 1)) = omega (arith, within, fits) in
    e) in
    let there : slice_set (take w words ++ 0 ∷ rest) w (at words w)
    ≡ take w words ++ at words w ∷ rest =
    subst (λ i. slice_set (take w words ++ 0 ∷ rest) i (at words w)
    ≡ take w words ++ at words w ∷ rest) (length-take-le w words (omega (arith, within)))
    (set-append_seam (take w words) 0 rest (at words w)) in
    ap (λ (z : List ℕ). slice_set (take w words ++ z) w (at words w)) one ∙ there
    ∙ sym (append_assoc (take w words) (at words w ∷ []) rest)
    ∙ ap (λ (z : List ℕ). z ++ rest) (sym (take_more words w 0 within))
