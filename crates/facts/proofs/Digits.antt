-- Facts about the values of digits alone.
use Rattle.facts.proofs.Words.{◌&&◌, ◌*◌, ◌++◌, ◌+◌, ◌<◌, ◌^◌, ◌∙◌, ◌∷◌, ◌≡◌, ◌≤◌, Bool, List, []}
use Rattle.facts.proofs.Words.{ap, arith, drop, drop_of_length-le, le-add_right, le_trans, length}
use Rattle.facts.proofs.Words.{refl, sym, true, ℕ, ⊎_elim, list_all, and_assoc}
use Rattle.facts.proofs.Words.{mul-le-mul_left, pow-le-pow_right, pow-suc, pow-zero, and_parts}
use Rattle.facts.proofs.Words.{cases_lt, eqb-true, nat_tests, pow_more}
use Rattle.std.proofs.Common.{◌==◌, nat_lt}
use Rattle.std.specs.Char.{digit_value, is_digit}
use Rattle.std.specs.Int.Bits.{bit_or}
use Rattle.std.specs.Str.Parse.{AllDigits, digits_value, digits_value_after}
use Rattle.std.proofs.lemmas.Int.Digits.{digits_value-lt}
use Rattle.std.proofs.lemmas.Nat.{le_or_l, le_or_r, or_lt}
use borrow.Author.Tests.{ltb-true}

pub digits_value_after-ge : (radix n : ℕ) (digits : List ℕ) → 1 ≤ radix
    → n ≤ digits_value_after radix n digits
digits_value_after-ge radix n [] h = omega arith
digits_value_after-ge radix n (c ∷ cs) h =
    let step : n ≤ n * radix + digit_value c =
    le_trans (omega (arith, mul-le-mul_left n h)) (le-add_right (n * radix) (digit_value c)) in
    le_trans step (digits_value_after-ge radix (n * radix + digit_value c) cs h)

pub digits_value_after-end : (radix value i : ℕ) (text : List ℕ) → length text ≤ i
    → digits_value_after radix value (drop i text) ≡ digits_value radix text
    → value ≡ digits_value radix text
digits_value_after-end radix value i text h e =
    ap (digits_value_after radix value) (sym (drop_of_length-le text h)) ∙ e

pub list_all-end : {X : Type 0} (p : X → Bool) (i : ℕ) (text : List X) → length text ≤ i
    → list_all p (drop i text) ≡ list_all p text → list_all p text ≡ true
list_all-end p i text h e = sym e ∙ ap (list_all p) (drop_of_length-le text h)

pub digits_value_after-append : (radix n : ℕ) (xs ys : List ℕ)
    → digits_value_after radix n (xs ++ ys)
    ≡ digits_value_after radix (digits_value_after radix n xs) ys
digits_value_after-append radix n [] ys = refl
digits_value_after-append radix n (x ∷ xs) ys =
    digits_value_after-append radix (n * radix + digit_value x) xs ys

pub digits_value_after-is : (radix n : ℕ) (cs : List ℕ)
    → digits_value_after radix n cs ≡ n * radix ^ length cs + digits_value_after radix 0 cs
digits_value_after-is radix n [] = let one : radix ^ length {A = ℕ} [] ≡ 1 = pow-zero radix in
    omega (arith, ap (λ x. n * x) one)
digits_value_after-is radix n (c ∷ cs) =
    let d = digit_value c in
    let p = radix ^ length cs in
    let e : digits_value_after radix (n * radix + d) cs
    ≡ (n * radix + d) * p + digits_value_after radix 0 cs =
    digits_value_after-is radix (n * radix + d) cs in
    let f : digits_value_after radix (0 * radix + d) cs
    ≡ (0 * radix + d) * p + digits_value_after radix 0 cs =
    digits_value_after-is radix (0 * radix + d) cs in
    omega (arith, e, f, ap (λ x. n * x) (pow-suc radix (length cs)))

-- ---- of hexadecimal digits: one more of at most sixteen

pub next_digit : (value i digit : ℕ) → value < 16 ^ i → digit < 16
    → value * 16 + digit < 16 ^ (i + 1)
next_digit value i digit h d = rw (pow_more 16 i) (omega arith)

pub digit_fits : (value i n digit : ℕ) → value < 16 ^ i → digit < 16 → i < n → n ≤ 16
    → value * 16 + digit < 2 ^ 64
digit_fits value i n digit h d lt few = grind (arith, nat_tests, pow-le-pow_right, next_digit)

-- ---- one more of eight digits, of which each may be any byte

pub room_for_digit : (value i : ℕ) → value + 17 ≤ 17 * 16 ^ i → i < 8 → value * 16 + 255 < 2 ^ 64
room_for_digit value i h lt = grind (arith, nat_tests, pow-le-pow_right)

pub digit_room : (value i digit : ℕ) → value + 17 ≤ 17 * 16 ^ i → digit < 256
    → value * 16 + digit + 17 ≤ 17 * 16 ^ (i + 1)
digit_room value i digit h d = rw (pow_more 16 i) (omega arith)

-- the bits of two numbers are those of a digit exactly where each is one
pub small_bits : (a b : ℕ) → nat_lt (bit_or a b) 16 ≡ (nat_lt a 16 && nat_lt b 16)
small_bits a b =
    ⊎_elim
    (λ a_small. ⊎_elim
    (λ b_small. let small : bit_or a b < 16 = or_lt 4 a b a_small b_small in
    grind (arith, nat_tests, a_small, b_small, small))
    (λ b_great. grind (arith, nat_tests, b_great, le_or_r a b))
    (cases_lt b 16))
    (λ a_great. grind (arith, nat_tests, a_great, le_or_l a b))
    (cases_lt a 16)

-- the bits of one digit more
pub more_bits : (bits digit : ℕ) (rest : Bool)
    → (nat_lt (bit_or bits digit) 16 && rest) ≡ (nat_lt bits 16 && (nat_lt digit 16 && rest))
more_bits bits digit rest =
    rw (small_bits bits digit) (and_assoc (nat_lt bits 16) (nat_lt digit 16) rest)

-- ---- eight digits, and two times eight

pub two_halves : (high low : List ℕ) → length low ≡ 8
    → digits_value 16 high * 4294967296 + digits_value 16 low ≡ digits_value 16 (high ++ low)
two_halves high low eight =
    grind (arith, nat_tests, digits_value_after-is, digits_value_after-append)

pub AllDigits-from_list_all : (cs : List ℕ) → list_all (λ c. is_digit c 16) cs ≡ true
    → AllDigits 16 cs
AllDigits-from_list_all [] all = tt
AllDigits-from_list_all (c ∷ cs) all =
    let (first, rest) = and_parts _ _ all in
    (ltb-true (digit_value c) 16 first, AllDigits-from_list_all cs rest)

pub half_fits : (cs : List ℕ) → length cs ≡ 8 → list_all (λ c. is_digit c 16) cs ≡ true
    → digits_value 16 cs < 4294967296
half_fits cs eight all = grind (arith, nat_tests, digits_value-lt, AllDigits-from_list_all)

pub digit_not_blank : (c : ℕ) → is_digit c 16 ≡ true → (c == 32) ≡ true → ⊥
digit_not_blank c digit blank = grind (arith, nat_tests, eqb-true)
