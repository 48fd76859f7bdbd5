-- Where the `.` of a time can be: right after the digits with which the time begins.
use Rattle.histories.proofs.Words.{◌≡◌, ◌∙◌, ℕ, zero, suc, ◌+◌, ◌-◌, ◌<◌, ◌≤◌, ◌||◌, cond, Bool}
use Rattle.histories.proofs.Words.{true, false, List, [], ◌∷◌, length, take, drop, get_or, None}
use Rattle.histories.proofs.Words.{Some, Option, refl, sym, ap, arith, digits_value, prefix_len}
use Rattle.histories.proofs.Words.{is_decimal, first_time, true≢false, ⊎_elim, cases_order}
use Rattle.histories.proofs.Words.{eqb-true, ne_eqb, prefix_len_passes, prefix_len-le-length}
use Rattle.histories.proofs.Words.{option_or, Nowhere, Passes, is_byte, later}
use Rattle.std.proofs.Math.Bool.{and-false}
use Rattle.std.proofs.lemmas.Bool.{cases_lt, eq-eqb}
use Rattle.std.proofs.lemmas.List.{get_or-take, get_or_past, length-take}
use Rattle.std.specs.Prelude.{nat_eq, codes, ◌==◌, if◌then◌else◌, ◌&&◌}
use Rattle.std.specs.List.{starts_with}
use Rattle.std.specs.Option.{option_and_then, option_map}
use Rattle.histories.specs.LineTimes.{after_point, before_next, may_end, time_here}
use Rattle.histories.specs.Times.{begins_digit, leading_digits, timestamp_in, timestamp_of}
use Rattle.histories.specs.declared.line_times.Before.{Before}
use Rattle.histories.specs.declared.times.Timestamp.{Timestamp}

-- no `.` is right after digits with which the bytes begin
abbrev pub IsUndated : List ℕ → Type 0
IsUndated bytes = (c : ℕ) → ((k : ℕ) → k ≤ c → is_decimal (get_or bytes k 0) ≡ true)
    → get_or bytes (c + 1) 0 ≡ 46 → ⊥

no_point : (bytes : List ℕ) (c : ℕ) → (get_or bytes c 0 ≡ 46 → ⊥)
    → starts_with nat_eq (drop c bytes) (codes ".") ≡ false
no_point [] zero other = refl
no_point [] (suc c) other = refl
no_point (b ∷ bytes) zero other = rw (ne_eqb 46 b (λ is. other (sym is))) refl
no_point (b ∷ bytes) (suc c) other = no_point bytes c other

digits_before : (bytes : List ℕ) (c k : ℕ) → prefix_len is_decimal (take 10 bytes) ≡ c → k < c
    → is_decimal (get_or bytes k 0) ≡ true
digits_before bytes c k is below =
    let most = prefix_len-le-length is_decimal (take 10 bytes) in
    let few : k < 10 = omega (arith, is, below, most, length-take 10 bytes) in
    ap is_decimal (sym (get_or-take 10 bytes k 0 few))
    ∙ prefix_len_passes is_decimal (take 10 bytes) k 0 (omega (arith, is, below))

-- the time that begins with this many digits, or with none
abbrev with_test : List ℕ → Bool → ℕ → Option Timestamp
with_test bytes none n =
    option_and_then (λ seconds.
    if starts_with nat_eq (drop seconds.1 bytes) (codes ".") then option_map (timestamp_of seconds)
    (leading_digits 9 (drop (seconds.1 + 1) bytes)) else None)
    (if none then None else Some (digits_value 10 (take n (take 10 bytes)), n))

abbrev with_digits : List ℕ → ℕ → Option Timestamp
with_digits bytes n = with_test bytes (n == 0) n

no_time : (bytes : List ℕ) → IsUndated bytes → timestamp_in bytes ≡ None
no_time bytes undated = by_count (prefix_len is_decimal (take 10 bytes)) refl
  where
    by_count : (c : ℕ) → prefix_len is_decimal (take 10 bytes) ≡ c → timestamp_in bytes ≡ None
    by_count zero is = ap (with_digits bytes) is
    by_count (suc c) is =
        let here : get_or bytes (suc c) 0 ≡ 46 → ⊥ =
        λ point. undated c (λ k low. digits_before bytes (suc c) k is (omega (arith, low)))
        (ap (λ n. get_or bytes n 0) (omega arith) ∙ point) in
        let seconds : ℕ × ℕ = (digits_value 10 (take (suc c) (take 10 bytes)), suc c) in
        ap (with_digits bytes) is
        ∙ ap (λ none. with_test bytes none (suc c)) (ne_eqb (suc c) 0 (λ zero. omega (arith, zero)))
        ∙ ap (λ b. cond b
        (option_map (timestamp_of seconds) (leading_digits 9 (drop (suc c + 1) bytes))) None)
        (no_point bytes (suc c) here)

none_here : (before : Before) (bytes : List ℕ) → IsUndated bytes → time_here before bytes ≡ None
none_here before bytes undated =
    ap (option_and_then (λ (t : Timestamp). if (t.decimals == 6 || t.decimals == 9) && may_end
    before (drop t.length bytes) then Some t.nanoseconds else None)) (no_time bytes undated)

-- a time begins with a digit
pub no_digit : (before : Before) (bytes : List ℕ) → begins_digit bytes ≡ false
    → time_here before bytes ≡ None
no_digit before [] none =
    none_here before [] (λ c digits point. true≢false (sym (digits 0 (omega arith))))
no_digit before (b ∷ bytes) none = none_here before (b ∷ bytes)
    (λ c digits point. true≢false (sym (digits 0 (omega arith)) ∙ none))

whether_asked : (asked : Bool) (found : Option ℕ) → option_or (cond asked None None) found ≡ found
whether_asked true found = refl
whether_asked false found = refl

-- one place on
pass : (before : Before) (b : ℕ) (bytes : List ℕ) → IsUndated (b ∷ bytes)
    → first_time before (b ∷ bytes) ≡ first_time (before_next before b) bytes
pass before b bytes undated =
    let found = first_time (before_next before b) bytes in
    ap (λ (t : Option ℕ). option_or (cond (before.is_gap || before.is_open) t None) found)
    (none_here before (b ∷ bytes) undated)
    ∙ whether_asked (before.is_gap || before.is_open) found

point_next : (before : Before) → before_next before 46 ≡ after_point
point_next before = rw (and-false before.is_first, and-false before.is_open)

-- the `.` itself
pub at_point : (before : Before) (bytes : List ℕ)
    → first_time before (46 ∷ bytes) ≡ first_time after_point bytes
at_point before bytes =
    pass before 46 bytes (λ c digits point. true≢false (sym (digits 0 (omega arith))))
    ∙ ap (λ (b : Before). first_time b bytes) (point_next before)

-- the first `.` has no digit before it
undated_before : (bytes : List ℕ) (p : ℕ) → 0 < p → Passes (is_byte 46) bytes p
    → Nowhere (Passes (is_byte 46) bytes) 0 p → is_decimal (get_or bytes (p - 1) 0) ≡ false
    → IsUndated bytes
undated_before bytes p some here none other c digits point =
    ⊎_elim
    (λ (last : c + 1 ≡ p). true≢false (sym (digits (p - 1) (omega (arith, last))) ∙ other))
    (λ differs. ⊎_elim
    (λ (less : c + 1 < p).
    none (c + 1) (omega arith) less (eq-eqb (get_or bytes (c + 1) 0) 46 point))
    (λ (more : p < c + 1). true≢false (sym (digits p (omega (arith, more)))
    ∙ ap is_decimal (eqb-true (get_or bytes p 0) 46 here)))
    differs)
    (cases_order (c + 1) p)

-- bytes up to a `.` that no digit is before
pub skip : (before : Before) (bytes : List ℕ) (p : ℕ) → p < length bytes
    → Passes (is_byte 46) bytes p → Nowhere (Passes (is_byte 46) bytes) 0 p
    → (0 < p → is_decimal (get_or bytes (p - 1) 0) ≡ false)
    → first_time before bytes ≡ first_time after_point (drop (p + 1) bytes)
skip before [] p within here none other = absurd (omega arith)
skip before (b ∷ bytes) zero within here none other =
    ap (λ x. first_time before (x ∷ bytes)) (eqb-true b 46 here) ∙ at_point before bytes
skip before (b ∷ bytes) (suc p) within here none other =
    let shift : suc (p + 1) ≡ suc p + 1 = omega arith in
    pass before b bytes
    (undated_before (b ∷ bytes) (suc p) (omega arith) here none (other (omega arith)))
    ∙ skip (before_next before b) bytes p (omega arith) here (later (is_byte 46) b bytes p none)
    (still p other)
    ∙ ap (λ n. first_time after_point (drop n (b ∷ bytes))) shift
  where
    still : (p : ℕ) → (0 < suc p → is_decimal (get_or (b ∷ bytes) (suc p - 1) 0) ≡ false) → 0 < p
        → is_decimal (get_or bytes (p - 1) 0) ≡ false
    still zero other some = absurd (omega (arith, some))
    still (suc q) other some =
        let here : suc q - 1 ≡ q = omega arith in
        let next : suc q ≡ suc (suc q) - 1 = omega arith in
        ap (λ n. is_decimal (get_or bytes n 0)) here
        ∙ ap (λ n. is_decimal (get_or (b ∷ bytes) n 0)) next ∙ other (omega arith)

-- bytes without a `.`
undated_all : (bytes : List ℕ) → Nowhere (Passes (is_byte 46) bytes) 0 (length bytes)
    → IsUndated bytes
undated_all bytes none c digits point =
    ⊎_elim
    (λ (below : c + 1 < length bytes).
    none (c + 1) (omega arith) below (eq-eqb (get_or bytes (c + 1) 0) 46 point))
    (λ (past : length bytes ≤ c + 1).
    true≢false (sym (eq-eqb 0 46 (sym (get_or_past bytes (c + 1) 0 past) ∙ point))))
    (cases_lt (c + 1) (length bytes))

pub no_times : (before : Before) (bytes : List ℕ)
    → Nowhere (Passes (is_byte 46) bytes) 0 (length bytes) → first_time before bytes ≡ None
no_times before [] none = refl
no_times before (b ∷ bytes) none =
    pass before b bytes (undated_all (b ∷ bytes) none)
    ∙ no_times (before_next before b) bytes (later (is_byte 46) b bytes (length bytes) none)
