-- Two rounds over the slots of a pool. Assumes nothing.
use Rattle.latchsym_ffi.proofs.Words.{◌≡◌, ◌≤◌, ◌+◌, ℕ, All, List, [], ◌∷◌, ap, arith, refl, subst}
use Rattle.latchsym_ffi.proofs.Words.{◌∙◌, sum}
use Rattle.std.proofs.lemmas.List.Sums.{sum_by-append}
use Rattle.latchsym_ffi.specs.Pools.{HaveRisen, IsClaimed}

sum_more : (n : ℕ) (ns : List ℕ) → sum (n ∷ ns) ≡ n + sum ns
sum_more n ns = let e = sum_by-append (λ (x : ℕ). x) (n ∷ []) ns in omega (arith, e)

sum_risen : (ms ns : List ℕ) → HaveRisen ms ns → sum ms ≤ sum ns
sum_risen [] [] r = omega arith
sum_risen [] (n ∷ ns) r = absurd r
sum_risen (m ∷ ms) [] r = absurd r
sum_risen (m ∷ ms) (n ∷ ns) r =
    let head = r.0 in omega (arith, head, sum_risen ms ns r.1, sum_more m ms, sum_more n ns)

both : (m n : ℕ) (ms ns : List ℕ) → m ≡ n → ms ≡ ns → m ∷ ms ≡ n ∷ ns
both m n ms ns e es = ap (λ x. x ∷ ms) e ∙ ap (λ xs. n ∷ xs) es

same_between : (ks ms ns : List ℕ) → HaveRisen ks ms → HaveRisen ms ns → sum ks ≡ sum ns → ns ≡ ms
same_between [] [] [] r s e = refl
same_between [] [] (n ∷ ns) r s e = absurd s
same_between [] (m ∷ ms) ns r s e = absurd r
same_between (k ∷ ks) [] ns r s e = absurd r
same_between (k ∷ ks) (m ∷ ms) [] r s e = absurd s
same_between (k ∷ ks) (m ∷ ms) (n ∷ ns) r s e =
    let low = r.0 in let high = s.0 in
    let a = sum_risen ks ms r.1 in let b = sum_risen ms ns s.1 in
    let c = sum_more k ks in let d = sum_more n ns in
    both n m ns ms (omega (arith, low, high, a, b, c, d, e))
    (same_between ks ms ns r.1 s.1 (omega (arith, low, high, a, b, c, d, e)))

pub claimed_between : (ks ms ns : List ℕ) → HaveRisen ks ms → HaveRisen ms ns → sum ks ≡ sum ns
    → All IsClaimed ns → All IsClaimed ms
claimed_between ks ms ns r s e all =
    subst (λ (xs : List ℕ). All IsClaimed xs) (same_between ks ms ns r s e) all
