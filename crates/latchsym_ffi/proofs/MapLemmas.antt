-- A loop that writes f of each element of one list over another. Assumes nothing.
use Rattle.latchsym_ffi.proofs.Words.{◌≡◌, ℕ, ◌+◌, ◌<◌, List, [], ◌∷◌, ◌++◌, map, take, drop}
use Rattle.latchsym_ffi.proofs.Words.{length, get_or, zero, suc, ap, arith, refl, ◌∙◌, slice_set}

map_next : {X Y : Type 0} (f : X → Y) (xs : List X) (ys : List Y) (n : ℕ) (d : X) → n < length xs
    → length ys ≡ length xs
    → slice_set (map f (take n xs) ++ drop n ys) n (f (get_or xs n d))
    ≡ map f (take (suc n) xs) ++ drop (suc n) ys
map_next f [] ys n d lt same = absurd (omega (arith, lt))
map_next f (z ∷ xs) [] n d lt same = absurd (omega (arith, same))
map_next f (z ∷ xs) (y ∷ ys) zero d lt same = refl
map_next f (z ∷ xs) (y ∷ ys) (suc n) d lt same =
    ap (λ l. f z ∷ l) (map_next f xs ys n d (omega (arith, lt)) (omega (arith, same)))

pub map_more : {X Y : Type 0} (f : X → Y) (xs : List X) (ys : List Y) (n : ℕ) (d : X)
    → n < length xs → length ys ≡ length xs
    → slice_set (map f (take n xs) ++ drop n ys) n (f (get_or xs n d))
    ≡ map f (take (n + 1) xs) ++ drop (n + 1) ys
map_more f xs ys n d lt same = map_next f xs ys n d lt same
    ∙ ap (λ k. map f (take k xs) ++ drop k ys) (let e : suc n ≡ n + 1 = omega arith in e)
