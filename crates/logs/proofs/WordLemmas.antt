-- Words that are no addresses, and the bytes that are leapt over.
use Rattle.logs.proofs.Definitions.{get_or-take, and_parts, le-ltb, drop-drop, list_any_at}
use Rattle.logs.proofs.Definitions.{cond_both, lt-leb, ◌≡◌, ◌∙◌, ◌⊎◌, inl, inr, ℕ, zero, suc, ◌+◌}
use Rattle.logs.proofs.Definitions.{◌<◌, ◌≤◌, Bool, true, false, cond, not, ◌&&◌, List, [], ◌∷◌}
use Rattle.logs.proofs.Definitions.{length, take, get_or, refl, sym, ap, arith, true≢false, Some}
use Rattle.logs.proofs.Definitions.{nat_eq, nat_le, length-drop, list_all, list_any, eqb-true}
use Rattle.logs.proofs.Definitions.{lt-ltb, or_cases, drop_more, get_or-drop, length-take, fewest}
use Rattle.logs.proofs.Definitions.{is_address_byte, is_begun, taken_among, taken_at, address_at}
use Rattle.logs.proofs.Definitions.{address_of_word, digits_between, is_glued, has_prefix}
use Rattle.logs.proofs.Definitions.{is_word_byte, run_of, words_behind, words_from, LogContext}
use Rattle.logs.proofs.Definitions.{AddressWord}
use Rattle.std.proofs.Common.{◌-◌, ⊎_elim}
use Rattle.std.proofs.lemmas.Bool.{cases_lt}
use Rattle.std.proofs.lemmas.Bool.Decides.{nat_tests}
use Rattle.facts.proofs.Options.{cond-None}
use Rattle.std.specs.Prelude.{None, Option, drop}
use Rattle.std.specs.Char.{is_digit}
use Rattle.std.specs.Option.{option_map_or}
use Rattle.texts.specs.Numbers.{numeral}
use Rattle.logs.specs.declared.words.Word.{Word}

-- ---- words that are too short, or have another byte

abbrev is_other : ℕ → Bool
is_other b = not (is_address_byte b)

few_digits : (least most : ℕ) (digits : List ℕ) → length digits < least
    → digits_between least most digits ≡ None
few_digits least most digits few = rw (lt-leb least (length digits) few)

not_all : (digits : List ℕ) → list_any is_other digits ≡ true
    → list_all (λ c. is_digit c 16) digits ≡ false
not_all [] other = absurd (true≢false (sym other))
not_all (d ∷ digits) other = grind (arith, other, not_all digits)

no_digits : (least most : ℕ) (digits : List ℕ) → list_any is_other digits ≡ true
    → digits_between least most digits ≡ None
no_digits least most digits other =
    cond-None (nat_le least (length digits) && nat_le (length digits) most) _ _ none refl
  where
    none : numeral 16 16 digits ≡ None
    none = grind (arith, not_all digits other)

behind_two : (word : List ℕ) → has_prefix word ≡ true → list_any is_other word ≡ true
    → list_any is_other (drop 2 word) ≡ true
behind_two [] prefix other = other
behind_two (a ∷ []) prefix other = grind (arith, prefix)
behind_two (a ∷ b ∷ word) prefix other = ⊎_elim (past 120 refl) (past 88 refl) (or_cases _ _ prefix)
  where
    past : (c : ℕ) → is_other c ≡ false → (nat_eq 48 a && (nat_eq c b && true)) ≡ true
        → list_any is_other word ≡ true
    past c is both =
        let (zero_is, x_is) = and_parts _ _ both in
        let x_is' = and_parts _ _ x_is in
        rw (← eqb-true 48 a zero_is, ← eqb-true c b x_is'.0, is) at other

no_word : (narrow : Bool) (word : List ℕ) → (length word < fewest narrow)
    ⊎ (list_any is_other word ≡ true) → address_of_word narrow word ≡ None
no_word true word (inl few) = few_digits 8 8 _ (cond_both (has_prefix word) (drop 2 word) word
    (λ w. length w < 8) (λ _. omega (arith, length-drop 2 word, few)) (λ _. few))
no_word true word (inr other) = no_digits 8 8 (cond (has_prefix word) (drop 2 word) word)
    (cond_both (has_prefix word) (drop 2 word) word (λ w. list_any is_other w ≡ true)
    (λ prefix. behind_two word prefix other) (λ _. other))
no_word false word (inl few) = cond-None (has_prefix word) _ _
    (few_digits 9 16 (drop 2 word) (omega (arith, length-drop 2 word, few)))
    (few_digits 16 16 word (omega (arith, few)))
no_word false word (inr other) =
    cond_both (has_prefix word) (digits_between 9 16 (drop 2 word)) (digits_between 16 16 word)
    (λ o. o ≡ None) (λ prefix. no_digits 9 16 (drop 2 word) (behind_two word prefix other))
    (λ _. no_digits 16 16 word other)

any_at : (bytes : List ℕ) (n k : ℕ) → k < n → k < length bytes
    → is_address_byte (get_or bytes k 0) ≡ false → list_any is_other (take n bytes) ≡ true
any_at bytes n k below within other = list_any_at is_other (take n bytes) k 0
    (omega (arith, length-take n bytes)) (rw (get_or-take n bytes k 0 below, other))

-- a word of this length, with such a byte or too short
no_address : (narrow : Bool) (line : List ℕ) (at n : ℕ)
    → (n < fewest narrow) ⊎ (list_any is_other (take n (drop at line)) ≡ true)
    → address_at narrow line (record { start = at; end = at + n }) ≡ None
no_address narrow line at n why =
    let glued : Bool = is_glued line (record { start = at; end = at + n }) in
    let all : (at + n) - at ≡ n = omega arith in
    cond-None glued _ _ refl (ap (λ m. address_of_word narrow (take m (drop at line))) all
    ∙ no_word narrow (take n (drop at line)) (of_take why))
  where
    of_take : (n < fewest narrow) ⊎ (list_any is_other (take n (drop at line)) ≡ true)
        → (length (take n (drop at line)) < fewest narrow)
        ⊎ (list_any is_other (take n (drop at line)) ≡ true)
    of_take (inl few) = inl (omega (arith, length-take n (drop at line), few))
    of_take (inr other) = inr other

-- ---- leaps

run_within : (bytes : List ℕ) → run_of is_word_byte bytes ≤ length bytes
run_within [] = omega arith
run_within (b ∷ bytes) = grind (arith, run_within bytes)

-- a byte more, where no address begins with it
over_one : (narrow : Bool) (context : LogContext) (line : List ℕ) (last : Option AddressWord)
    (at : ℕ) (within : Bool) (b : ℕ) (bytes : List ℕ)
    → address_at narrow line (record { start = at; end = at + run_of is_word_byte (b ∷ bytes) })
    ≡ None
    → taken_among narrow context line last (words_from at within (b ∷ bytes))
    ≡ taken_among narrow context line last (words_from (at + 1) (is_word_byte b) bytes)
over_one narrow context line last at within b bytes none = either within (is_word_byte b)
  where
    w : Word
    w = record { start = at; end = at + run_of is_word_byte (b ∷ bytes) }

    either : (i t : Bool) → taken_among narrow context line last
        (cond t (cond i (words_from (at + 1) true bytes) (w ∷ words_from (at + 1) true bytes))
        (words_from (at + 1) false bytes))
        ≡ taken_among narrow context line last (words_from (at + 1) t bytes)
    either i false = refl
    either true true = refl
    either false true =
        ap (λ o. option_map_or (λ value. let t = taken_at narrow context line last w value in
        t ∷ taken_among narrow context line (Some t) (words_from (at + 1) true bytes)) o
        (taken_among narrow context line last (words_from (at + 1) true bytes))) none

behind_one : (line : List ℕ) (at b : ℕ) (bytes : List ℕ) → (b ∷ bytes) ≡ drop at line
    → bytes ≡ drop (at + 1) line
behind_one line at b bytes is = ap (drop 1) is ∙ drop-drop 1 at line

-- a word is too short, or has the byte at this place
too_short : (narrow : Bool) (bytes : List ℕ) (n k : ℕ) → k < length bytes → k < fewest narrow
    → is_address_byte (get_or bytes k 0) ≡ false
    → (n < fewest narrow) ⊎ (list_any is_other (take n bytes) ≡ true)
too_short narrow bytes n k below few other =
    ⊎_elim (λ high. inr (any_at bytes n k high below other)) (λ low. inl (omega (arith, low, few)))
    (cases_lt k n)

-- bytes up to one of no address, and no more than an address has
leap_from : (narrow : Bool) (context : LogContext) (line : List ℕ) (last : Option AddressWord)
    (at : ℕ) (within : Bool) (bytes : List ℕ) (k : ℕ) → bytes ≡ drop at line → k < length bytes
    → k < fewest narrow → is_address_byte (get_or bytes k 0) ≡ false
    → taken_among narrow context line last (words_from at within bytes)
    ≡ taken_among narrow context line last
    (words_from (at + k + 1) (is_word_byte (get_or bytes k 0)) (drop (at + k + 1) line))
leap_from narrow context line last at within [] k is below few other = absurd (omega arith)
leap_from narrow context line last at within (b ∷ bytes) zero is below few other =
    let place : at + 0 + 1 ≡ at + 1 = omega arith in
    rw (place, ← behind_one line at b bytes is) (over_one narrow context line last at within b bytes
    (no_address narrow line at (run_of is_word_byte (b ∷ bytes)) (rw (← is)
    (too_short narrow (b ∷ bytes) (run_of is_word_byte (b ∷ bytes)) zero below few other))))
leap_from narrow context line last at within (b ∷ bytes) (suc j) is below few other =
    let place : at + suc j + 1 ≡ at + 1 + j + 1 = omega arith in
    rw place
    (over_one narrow context line last at within b bytes
    (no_address narrow line at (run_of is_word_byte (b ∷ bytes)) (rw (← is)
    (too_short narrow (b ∷ bytes) (run_of is_word_byte (b ∷ bytes)) (suc j) below few other)))
    ∙ leap_from narrow context line last (at + 1) (is_word_byte b) bytes j
    (behind_one line at b bytes is) (omega arith) (omega arith) other)

pub leap : (narrow : Bool) (context : LogContext) (line : List ℕ) (last : Option AddressWord)
    (start place : ℕ) (within : Bool) → start ≤ place → place < length line
    → place < start + fewest narrow → is_address_byte (get_or line place 0) ≡ false
    → taken_among narrow context line last (words_from start within (drop start line))
    ≡ taken_among narrow context line last
    (words_from (place + 1) (is_word_byte (get_or line place 0)) (drop (place + 1) line))
leap narrow context line last start place within from below few other =
    let k = place - start in
    let at : start + k ≡ place = omega arith in
    let same : get_or (drop start line) k 0 ≡ get_or line place 0 =
    get_or-drop start line k 0 ∙ ap (λ n. get_or line n 0) at in
    leap_from narrow context line last start within (drop start line) k refl
    (omega (arith, length-drop start line)) (omega arith) (ap is_address_byte same ∙ other)
    ∙ ap (λ b. taken_among narrow context line last
    (words_from (start + k + 1) (is_word_byte b) (drop (start + k + 1) line))) same
    ∙ ap (λ n. taken_among narrow context line last
    (words_from (n + 1) (is_word_byte (get_or line place 0)) (drop (n + 1) line))) at

-- a word goes on behind it if it is one of a word
pub begun_behind : (line : List ℕ) (from place : ℕ) → from ≤ place
    → is_begun line from (place + 1) ≡ is_word_byte (get_or line place 0)
begun_behind line from place low =
    let same : (place + 1) - 1 ≡ place = omega arith in
    ap (λ t. t && is_word_byte (get_or line ((place + 1) - 1) 0))
    (lt-ltb from (place + 1) (omega arith)) ∙ ap (λ n. is_word_byte (get_or line n 0)) same

-- and none where none did
pub not_begun : (line : List ℕ) (place : ℕ) → is_begun line place place ≡ false
not_begun line place =
    rw (le-ltb place place (omega arith))

-- too few bytes are left
few_from : (narrow : Bool) (context : LogContext) (line : List ℕ) (last : Option AddressWord)
    (at : ℕ) (within : Bool) (bytes : List ℕ) → length bytes < fewest narrow
    → taken_among narrow context line last (words_from at within bytes) ≡ []
few_from narrow context line last at within [] few = refl
few_from narrow context line last at within (b ∷ bytes) few =
    over_one narrow context line last at within b bytes (no_address narrow line at
    (run_of is_word_byte (b ∷ bytes)) (inl (omega (arith, few, run_within (b ∷ bytes)))))
    ∙ few_from narrow context line last (at + 1) (is_word_byte b) bytes (omega (arith, few))

pub few_left : (narrow : Bool) (context : LogContext) (line : List ℕ) (last : Option AddressWord)
    (start : ℕ) (within : Bool) → length line - start < fewest narrow
    → taken_among narrow context line last (words_from start within (drop start line)) ≡ []
few_left narrow context line last start within few = few_from narrow context line last start within
    (drop start line) (omega (arith, few, length-drop start line))

-- the rest of a word
pub goes_on : (line : List ℕ) (start end : ℕ) (w : Word) → start < length line
    → is_word_byte (get_or line start 0) ≡ true → words_behind line start
    ≡ w ∷ words_behind line end → words_from start true (drop start line) ≡ words_behind line end
goes_on line start end w below is words =
    let b = get_or line start 0 in
    let bytes = drop (start + 1) line in
    let parts : drop start line ≡ b ∷ bytes = drop_more line start 0 below in
    ap (words_from start true) parts
    ∙ ap (λ t. cond t (words_from (start + 1) true bytes) (words_from (start + 1) false bytes)) is
    ∙ sym (ap (λ t.
    drop 1 (cond t (record { start = start; end = start + run_of is_word_byte (b ∷ bytes) }
    ∷ words_from (start + 1) true bytes) (words_from (start + 1) false bytes))) is)
    ∙ ap (λ l. drop 1 (words_from start false l)) (sym parts)
    ∙ ap (drop 1) words

-- what comes behind it
rest_passed : (at : ℕ) (bytes : List ℕ) → words_from at true bytes
    ≡ words_from (at + run_of is_word_byte bytes) false (drop (run_of is_word_byte bytes) bytes)
rest_passed at [] = refl
rest_passed at (b ∷ bytes) =
    let n = run_of is_word_byte bytes in
    let one : n + 1 ≡ suc n = omega arith in
    let place : at + 1 + n ≡ at + suc n = omega arith in
    let none : at + 0 ≡ at = omega arith in
    elim (is_word_byte b) as (λ t. is_word_byte b ≡ t
    → cond t (words_from (at + 1) true bytes) (words_from (at + 1) false bytes)
    ≡ words_from (at + cond t (n + 1) 0) false (drop (cond t (n + 1) 0) (b ∷ bytes))) [
      | true ↦ λ _.
          rw (one) (rest_passed (at + 1) bytes ∙ ap (λ m. words_from m false (drop n bytes)) place)
      | false ↦ λ other. rw (none, other) refl
    ] refl

-- a word, and those behind it
pub word_passed : (line : List ℕ) (start n : ℕ) → n ≡ run_of is_word_byte (drop start line)
    → start < length line → is_word_byte (get_or line start 0) ≡ true → words_behind line start
    ≡ record { start = start; end = start + n } ∷ words_behind line (start + n)
word_passed line start n run below is =
    let bytes = drop (start + 1) line in
    let m = run_of is_word_byte bytes in
    let place : start + 1 + m ≡ start + (m + 1) = omega arith in
    rw (run, drop_more line start 0 below, is)
    (ap (λ words. record { start = start; end = start + (m + 1) } ∷ words)
    (rest_passed (start + 1) bytes
    ∙ ap (words_from (start + 1 + m) false) (drop-drop m (start + 1) line)
    ∙ ap (λ p. words_from p false (drop p line)) place))

-- bytes of address words are bytes of words
pub is_word : (b : ℕ) → is_address_byte b ≡ true → is_word_byte b ≡ true
is_word b is = grind (arith, nat_tests, is)

pub some_fewest : (narrow : Bool) → 0 < fewest narrow
some_fewest true = omega arith
some_fewest false = omega arith
