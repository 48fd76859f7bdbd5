-- Facts about lists of numbers that follow one another alone.
use Rattle.facts.proofs.Words.{◌++◌, ◌+◌, ◌∙◌, ◌∷◌, ◌≡◌, [], add-zero, ap, arith, refl, suc, zero}
use Rattle.facts.proofs.Words.{ℕ, range_with_len}
use Rattle.std.proofs.lemmas.Bool.Decides.{nat_tests}

-- so many numbers, and then more
pub range-append : (a k m : ℕ)
    → range_with_len a (k + m) ≡ range_with_len a k ++ range_with_len (a + k) m
range-append a zero m = ap (λ n. range_with_len a n) (let e : zero + m ≡ m = omega arith in e)
    ∙ ap (λ n. range_with_len n m) (let e : a ≡ a + zero = omega arith in e)
range-append a (suc k) m =
    ap (range_with_len a) (let e : suc k + m ≡ suc (k + m) = omega arith in e)
    ∙ ap (λ l. a ∷ l) (range-append (a + 1) k m)
    ∙ ap (λ n. a ∷ (range_with_len (a + 1) k ++ range_with_len n m))
    (let e : a + 1 + k ≡ a + suc k = omega arith in e)

pub range-append_from_zero : (k m : ℕ)
    → range_with_len 0 (k + m) ≡ range_with_len 0 k ++ range_with_len k m
range-append_from_zero k m = range-append 0 k m
    ∙ ap (λ n. range_with_len 0 k ++ range_with_len n m) (let e : 0 + k ≡ k = omega arith in e)

-- one number more
pub range-push : (a n : ℕ) → range_with_len a (n + 1) ≡ range_with_len a n ++ (a + n) ∷ []
range-push a zero = rw add-zero refl
range-push a (suc n) = grind (arith, nat_tests, range-push (a + 1) n)
