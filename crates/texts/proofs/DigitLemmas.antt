-- A table of digits.
use Rattle.texts.proofs.Words.{◌≡◌, ℕ, zero, suc, ◌+◌, ◌<◌, Bool, true, List, [], ◌∷◌, length}
use Rattle.texts.proofs.Words.{get_or, ap, ◌∙◌, arith, ◌&&◌, ◌==◌, and_parts, eqb-true, digit_value}

-- the table holds the digits that the bytes from n on are
abbrev pub holds_digits : ℕ → List ℕ → Bool
holds_digits n [] = true
holds_digits n (digit ∷ digits) = digit == digit_value n && holds_digits (n + 1) digits

pub digit_at : (table : List ℕ) (n k : ℕ) → holds_digits n table ≡ true → k < length table
    → get_or table k 0 ≡ digit_value (n + k)
digit_at [] n k holds below = absurd (omega arith)
digit_at (digit ∷ digits) n zero holds below =
    let same : n ≡ n + 0 = omega arith in
    eqb-true digit (digit_value n) (and_parts _ _ holds).0 ∙ ap digit_value same
digit_at (digit ∷ digits) n (suc k) holds below =
    let same : n + 1 + k ≡ n + suc k = omega arith in
    digit_at digits (n + 1) k (and_parts _ _ holds).1 (omega arith) ∙ ap digit_value same
