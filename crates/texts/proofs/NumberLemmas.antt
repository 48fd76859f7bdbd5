-- What the digits that are left say of a numeral.
use Rattle.texts.proofs.Words.{◌++◌, ◌&&◌, length-append, ◌≡◌, ℕ, suc, ◌+◌, ◌*◌, ◌^◌, ◌<◌, ◌≤◌}
use Rattle.texts.proofs.Words.{true, List, ◌∷◌, length, Some, None, Bool, get_or, drop, drop-cons}
use Rattle.texts.proofs.Words.{sym, ap, ◌∙◌, arith, common_steps, list_all, is_digit, digit_value}
use Rattle.texts.proofs.Words.{digits_value, digits_value_after, digits_value_after-ge, half_fits}
use Rattle.texts.proofs.Words.{two_halves, numeral}
use Rattle.texts.proofs.Words.{lt-ltb}
use Rattle.std.specs.Prelude.{nat_lt, max}
use Rattle.std.proofs.lemmas.List.Folds.{list_all-append}

pub too_great : (radix most : ℕ) (digits : List ℕ) → 2 ^ 64 ≤ digits_value radix digits
    → numeral radix most digits ≡ None
too_great radix most digits h = grind (arith, common_steps, h)

pub is_value : (radix most : ℕ) (digits : List ℕ) → 0 < length digits → length digits ≤ most
    → list_all (λ c. is_digit c radix) digits ≡ true → digits_value radix digits < 2 ^ 64
    → numeral radix most digits ≡ Some (digits_value radix digits)
is_value radix most digits some few all small = grind (arith, common_steps, some, few, all, small)

-- A value that does not fit in the middle of the digits does not fit at their end.
pub overflows : (radix most value i : ℕ) (text : List ℕ) → 2 ≤ radix → i < length text
    → digits_value_after radix value (drop i text) ≡ digits_value radix text
    → 2 ^ 64 ≤ value * radix + digit_value (get_or text i 0) → numeral radix most text ≡ None
overflows radix most value i text two h e big =
    let shift : suc i ≡ i + 1 = omega arith in
    let unrolled : digits_value_after radix (value * radix + digit_value (get_or text i 0))
    (drop (i + 1) text) ≡ digits_value radix text =
    ap (digits_value_after radix value)
    (sym (drop-cons text i 0 h ∙ ap (λ n. get_or text i 0 ∷ drop n text) shift)) ∙ e in
    too_great radix most text (omega (
      arith,
      big,
      unrolled,
      digits_value_after-ge radix (value * radix + digit_value (get_or text i 0))
          (drop (i + 1) text) (omega arith),
    ))

-- ---- sixteen digits fit 64 bits

-- ---- eight digits of any value, and two times eight

-- the digits of two halves, by the greater of their bits
pub both_digits : (high low : List ℕ) (a b m : ℕ)
    → nat_lt a 16 ≡ list_all (λ c. is_digit c 16) high
    → nat_lt b 16 ≡ list_all (λ c. is_digit c 16) low → m ≡ max a b → m < 16
    → (list_all (λ c. is_digit c 16) high ≡ true) × (list_all (λ c. is_digit c 16) low ≡ true)
both_digits high low a b m of_high of_low greater small =
    (sym of_high ∙ lt-ltb a 16 (omega arith), sym of_low ∙ lt-ltb b 16 (omega arith))

-- sixteen digits, by their halves
pub is_sixteen : (high low : List ℕ) → length high ≡ 8 → length low ≡ 8
    → list_all (λ c. is_digit c 16) high ≡ true → list_all (λ c. is_digit c 16) low ≡ true
    → numeral 16 16 (high ++ low) ≡ Some (digits_value 16 high * 4294967296 + digits_value 16 low)
is_sixteen high low eight_high eight_low all_high all_low =
    let text = high ++ low in
    let long : length text ≡ 16 = omega (arith, length-append high low) in
    let all : list_all (λ c. is_digit c 16) text ≡ true =
    list_all-append (λ c. is_digit c 16) high low ∙ both_true all_high all_low in
    let value = two_halves high low eight_low in
    let small_high = half_fits high eight_high all_high in
    let small_low = half_fits low eight_low all_low in
    is_value 16 16 text (omega arith) (omega arith) all
    (omega (arith, value, small_high, small_low)) ∙ ap Some (sym value)
  where
    both_true : {a b : Bool} → a ≡ true → b ≡ true → (a && b) ≡ true
    both_true p q = cc
