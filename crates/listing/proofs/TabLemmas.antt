-- Where the first line of a text ends, after its first tab.
use Rattle.listing.proofs.Words.{◌≡◌, ℕ, ◌+◌, ◌-◌, ◌==◌, List, length, get_or, take, drop, sym, ap}
use Rattle.listing.proofs.Words.{◌∙◌, ⊎_elim, arith, length-drop, cases_order, eqb-true, or_left}
use Rattle.listing.proofs.Words.{get_or-drop, take_rest, NoneBefore, Nowhere, Passes, is_byte}
use Rattle.listing.proofs.Words.{is_byte2}

-- what stands after a place
abbrev pub behind : ℕ → List ℕ → List ℕ
behind place xs = take (length xs - (place + 1)) (drop (place + 1) xs)

byte_behind : (xs : List ℕ) (place k : ℕ)
    → get_or (behind place xs) k 0 ≡ get_or xs (place + 1 + k) 0
byte_behind xs place k =
    ap (λ (l : List ℕ). get_or l k 0) (take_rest xs (place + 1)) ∙ get_or-drop (place + 1) xs k 0

length_behind : (xs : List ℕ) (place : ℕ) → length (behind place xs) ≡ length xs - (place + 1)
length_behind xs place =
    ap (λ (l : List ℕ). length l) (take_rest xs (place + 1)) ∙ length-drop (place + 1) xs

-- no line ends up to so many bytes after a tab
no_end : (xs : List ℕ) (place m : ℕ) → Nowhere (Passes (is_byte2 10 9) xs) 0 place
    → (get_or xs place 0 ≡ 10 → ⊥) → Nowhere (Passes (is_byte 10) (behind place xs)) 0 m
    → Nowhere (Passes (is_byte 10) xs) 0 (place + 1 + m)
no_end xs place m before tab none k low high passes =
    ⊎_elim
    (λ same. tab
    (eqb-true (get_or xs place 0) 10 (ap (λ (i : ℕ). get_or xs i 0 == 10) (sym same) ∙ passes)))
    (λ differs. ⊎_elim
    (λ less. before k low less (or_left (get_or xs k 0 == 10) (get_or xs k 0 == 9) passes))
    (λ more.
    let at : place + 1 + (k - (place + 1)) ≡ k = omega arith in
    none (k - (place + 1)) (omega arith) (omega arith) (ap (λ b. b == 10)
    (byte_behind xs place (k - (place + 1)) ∙ ap (λ (i : ℕ). get_or xs i 0) at) ∙ passes))
    differs)
    (cases_order k place)

-- the end that is found after a tab is that of the line
pub end_behind : (xs : List ℕ) (place more : ℕ)
    → NoneBefore (Passes (is_byte2 10 9) xs) 0 (length xs) place → (get_or xs place 0 ≡ 10 → ⊥)
    → NoneBefore (Passes (is_byte 10) (behind place xs)) 0 (length (behind place xs)) more
    → Passes (is_byte 10) (behind place xs) more
    → NoneBefore (Passes (is_byte 10) xs) 0 (length xs) (place + 1 + more)
    × Passes (is_byte 10) xs (place + 1 + more)
end_behind xs place more first tab end passes = (
  record {
    low = omega arith;
    high = omega (arith, end.high, length_behind xs place, first.high);
    before = no_end xs place more first.before tab end.before;
  },
  ap (λ b. b == 10) (sym (byte_behind xs place more)) ∙ passes,
)

-- and where none is found, the line has none
pub no_end_behind : (xs : List ℕ) (place : ℕ)
    → NoneBefore (Passes (is_byte2 10 9) xs) 0 (length xs) place → (get_or xs place 0 ≡ 10 → ⊥)
    → Nowhere (Passes (is_byte 10) (behind place xs)) 0 (length (behind place xs))
    → Nowhere (Passes (is_byte 10) xs) 0 (length xs)
no_end_behind xs place first tab none k low high passes =
    no_end xs place (length (behind place xs)) first.before tab none k low
    (omega (arith, length_behind xs place, first.high)) passes
