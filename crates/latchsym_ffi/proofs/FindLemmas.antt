-- A loop that seeks the first element of a list at which a test holds. Assumes nothing.
use Rattle.latchsym_ffi.proofs.Words.{◌≡◌, ◌∙◌, ℕ, ◌+◌, ◌<◌, Bool, true, false, List, [], ◌∷◌, find}
use Rattle.latchsym_ffi.proofs.Words.{take, length, get_or, zero, suc, Option, Some, None}
use Rattle.latchsym_ffi.proofs.Words.{if◌then◌else◌, ap, arith, refl}

pick : {X : Type 0} (b b' : Bool) (x : X) (rest : Option X) → b ≡ b'
    → (if b then Some x else rest) ≡ (if b' then Some x else rest)
pick b b' x rest e = ap (λ t. if t then Some x else rest) e

-- an element that is not passed over, and what is found behind it
behind : {X : Type 0} (b : Bool) (x : X) (rest : Option X) → (if b then Some x else rest) ≡ None
    → (b ≡ false) × (rest ≡ None)
behind true x rest e = absurd (cc)
behind false x rest e = (refl, e)

pub found_at : {X : Type 0} (p : X → Bool) (xs : List X) (n : ℕ) (d : X) → n < length xs
    → find p (take n xs) ≡ None
    → p (get_or xs n d) ≡ true → find p xs ≡ Some (get_or xs n d)
found_at p [] n d lt none holds = absurd (omega (arith, lt))
found_at p (x ∷ xs) zero d lt none holds = pick (p x) true x (find p xs) holds
found_at p (x ∷ xs) (suc n) d lt none holds =
    let parts = behind (p x) x (find p (take n xs)) none in
    pick (p x) false x (find p xs) parts.0 ∙ found_at p xs n d (omega (arith, lt)) parts.1 holds

none_next : {X : Type 0} (p : X → Bool) (xs : List X) (n : ℕ) (d : X) → n < length xs
    → find p (take n xs) ≡ None
    → p (get_or xs n d) ≡ false → find p (take (suc n) xs) ≡ None
none_next p [] n d lt none fails = absurd (omega (arith, lt))
none_next p (x ∷ xs) zero d lt none fails = pick (p x) false x None fails
none_next p (x ∷ xs) (suc n) d lt none fails =
    let parts = behind (p x) x (find p (take n xs)) none in
    pick (p x) false x (find p (take (suc n) xs)) parts.0
    ∙ none_next p xs n d (omega (arith, lt)) parts.1 fails

pub none_more : {X : Type 0} (p : X → Bool) (xs : List X) (n : ℕ) (d : X) → n < length xs
    → find p (take n xs) ≡ None
    → p (get_or xs n d) ≡ false → find p (take (n + 1) xs) ≡ None
none_more p xs n d lt none fails =
    ap (λ k. find p (take k xs)) (let e : n + 1 ≡ suc n = omega arith in e)
    ∙ none_next p xs n d lt none fails
