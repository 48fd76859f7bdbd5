-- Digits are written from the last to the first.
use Rattle.texts.proofs.Words.{◌≡◌, ℕ, zero, suc, ◌+◌, ◌-◌, ◌*◌, ◌/◌, ◌%◌, ◌^◌, ◌<◌, ◌≤◌, true}
use Rattle.texts.proofs.Words.{false, cond, List, [], ◌∷◌, length, drop, set, refl, sym, ap, subst}
use Rattle.texts.proofs.Words.{◌∙◌, arith, ◌==◌, drop-set, length-set, digits_onto, digit_glyph}
use Rattle.std.proofs.Math.Nat.{pow-suc, div-lt_iff_lt-mul}
use Rattle.std.specs.Fmt.{digits}

pub more : (k left : ℕ) (acc : List ℕ) → 16 ≤ left → digits_onto (suc k) 16 false left acc
    ≡ digits_onto k 16 false (left / 16) (digit_glyph false (left % 16) ∷ acc)
more k left acc h = let e : (left / 16 == 0) ≡ false = grind arith in
    ap (λ b. cond b (digit_glyph false (left % 16) ∷ acc)
    (digits_onto k 16 false (left / 16) (digit_glyph false (left % 16) ∷ acc))) e

pub last : (k left : ℕ) (acc : List ℕ) → left < 16
    → digits_onto (suc k) 16 false left acc ≡ digit_glyph false (left % 16) ∷ acc
last k left acc h = let e : (left / 16 == 0) ≡ true = grind arith in
    ap (λ b. cond b (digit_glyph false (left % 16) ∷ acc)
    (digits_onto k 16 false (left / 16) (digit_glyph false (left % 16) ∷ acc))) e

pub all_of : (n : ℕ) → digits_onto 64 16 false n [] ≡ digits 16 false n
unfolding digits
all_of n = refl

pub smaller : (start left : ℕ) → 1 ≤ start → left < 16 ^ start → left / 16 < 16 ^ (start - 1)
smaller zero left h small = absurd (omega arith)
smaller (suc k) left h small =
    let e : suc k - 1 ≡ k = omega arith in
    let more : left < 16 ^ k * 16 = omega (arith, small, pow-suc 16 k) in
    let P : ℕ → Type 0 = λ n. left / 16 < 16 ^ n in
    subst P (sym e) ((div-lt_iff_lt-mul (omega arith)).1 more)

-- One digit more, before those that stand in the buffer.
pub written : (start left digit : ℕ) (buffer : List ℕ) → 1 ≤ start → start ≤ length buffer
    → digit ≡ digit_glyph false (left % 16)
    → drop (start - 1) (set buffer (start - 1) digit)
    ≡ digit_glyph false (left % 16) ∷ drop start buffer
written start left digit buffer low high e =
    drop-set buffer (start - 1) digit (omega arith) ∙ ap (λ d. d ∷ drop (start - 1 + 1) buffer) e
    ∙ (let back : start - 1 + 1 ≡ start = omega arith in
    ap (λ n. digit_glyph false (left % 16) ∷ drop n buffer) back)

pub told_more : (start left digit n : ℕ) (buffer : List ℕ) → 1 ≤ start → start ≤ length buffer
    → digit ≡ digit_glyph false (left % 16) → 16 ≤ left
    → digits_onto (46 + start) 16 false left (drop start buffer) ≡ digits 16 false n
    → digits_onto (46 + (start - 1)) 16 false (left / 16)
    (drop (start - 1) (set buffer (start - 1) digit)) ≡ digits 16 false n
told_more start left digit n buffer low high e big told =
    let turns : 46 + start ≡ suc (46 + (start - 1)) = omega arith in
    ap (digits_onto (46 + (start - 1)) 16 false (left / 16))
    (written start left digit buffer low high e)
    ∙ sym (more (46 + (start - 1)) left (drop start buffer) big)
    ∙ ap (λ k. digits_onto k 16 false left (drop start buffer)) (sym turns) ∙ told

pub told_last : (start left digit n : ℕ) (buffer : List ℕ) → 1 ≤ start → start ≤ length buffer
    → digit ≡ digit_glyph false (left % 16) → left < 16
    → digits_onto (46 + start) 16 false left (drop start buffer) ≡ digits 16 false n
    → drop (start - 1) (set buffer (start - 1) digit) ≡ digits 16 false n
told_last start left digit n buffer low high e small told =
    let turns : 46 + start ≡ suc (46 + (start - 1)) = omega arith in
    written start left digit buffer low high e
    ∙ sym (last (46 + (start - 1)) left (drop start buffer) small)
    ∙ ap (λ k. digits_onto k 16 false left (drop start buffer)) (sym turns) ∙ told

pub small_at_one : (start left : ℕ) → start ≤ 1 → left < 16 ^ start → left < 16
small_at_one zero left h small = search (arith, small)
small_at_one (suc zero) left h small = small
small_at_one (suc (suc k)) left h small = absurd (omega arith)

pub smaller_next : (start left : ℕ) → 3 ≤ start → left < 16 ^ (start - 2)
    → left / 16 < 16 ^ (start - 1 - 2)
smaller_next start left low small =
    let turned : start - 2 - 1 ≡ start - 1 - 2 = omega arith in
    subst (λ k. left / 16 < 16 ^ k) turned (smaller (start - 2) left (omega arith) small)

-- `0x` before what stands from a place on
pub prefixed : (start : ℕ) (buffer : List ℕ) → 2 ≤ start → start ≤ length buffer
    → drop (start - 2) (set (set buffer (start - 1) 120) (start - 2) 48)
    ≡ 48 ∷ 120 ∷ drop start buffer
prefixed start buffer low high =
    let within : start - 2 < length (set buffer (start - 1) 120) =
    rw (length-set buffer (start - 1) 120) (omega arith) in
    let next : start - 2 + 1 ≡ start - 1 = omega arith in
    let back : start - 1 + 1 ≡ start = omega arith in
    drop-set (set buffer (start - 1) 120) (start - 2) 48 within
    ∙ ap (λ (k : ℕ). 48 ∷ drop k (set buffer (start - 1) 120)) next
    ∙ ap (λ (l : List ℕ). 48 ∷ l)
    (drop-set buffer (start - 1) 120 (omega arith) ∙ ap (λ (k : ℕ). 120 ∷ drop k buffer) back)
