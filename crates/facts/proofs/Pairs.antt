-- Facts about pairs of elements of lists alone: of one list, and of two side by side.
use Rattle.facts.proofs.Words.{◌++◌, ◌+◌, ◌<◌, ◌∙◌, ◌∷◌, ◌≡◌, ◌≤◌, List, Some, [], ap, arith}
use Rattle.facts.proofs.Words.{flat_map, get_or, inl, inr, length, length-append, refl, subst, suc}
use Rattle.facts.proofs.Words.{take, zero, ℕ, Contains, slice_get, zip, AllPairs}
use Rattle.facts.proofs.Words.{range_with_len, flat_map-append, get_or-append-add}
use Rattle.facts.proofs.Words.{get_or_append_left, get_or_default, take_more}
use Rattle.std.proofs.Common.{◌⊎◌}
use Rattle.std.proofs.lemmas.List.{append-nil}
use Rattle.std.proofs.lemmas.List.FromFn.{get_or-range_with_len}
use Rattle.std.proofs.lemmas.Slice.Zip.{get_or-zip, length-zip}
use Rattle.facts.proofs.Lists.{slice_get-push_cases}
use Rattle.std.proofs.lemmas.Bool.Decides.{nat_tests}

pub AllPairs-few : {A : Type 0} (R : A → A → Type 0) (xs : List A) → length xs ≤ 1 → AllPairs R xs
AllPairs-few R xs short = λ i j d lt within. absurd (omega arith)

-- one element of each of two lists that are joined
pub AllPairs-across : {X : Type 0} (R : X → X → Type 0) (xs ys : List X) (x y : X)
    → AllPairs R (xs ++ ys) → Contains xs x → Contains ys y → R x y
AllPairs-across R xs ys x y all (i, lt, is) (j, less, there) =
    let e : get_or (xs ++ ys) i x ≡ x = get_or_append_left xs ys x i lt ∙ is in
    let f : get_or (xs ++ ys) (length xs + j) x ≡ y =
    get_or-append-add xs ys j x ∙ get_or_default ys j x y less ∙ there in
    let r : R (get_or (xs ++ ys) i x) (get_or (xs ++ ys) (length xs + j) x) =
    all i (length xs + j) x (omega arith) (omega (arith, length-append xs ys)) in
    subst (λ b. R x b) f (subst (λ a. R a (get_or (xs ++ ys) (length xs + j) x)) e r)

pub AllPairs-left : {X : Type 0} (R : X → X → Type 0) (xs ys : List X) → AllPairs R (xs ++ ys)
    → AllPairs R xs
AllPairs-left R xs ys all i j d less lt =
    grind (arith, nat_tests, length-append, get_or_append_left)

pub AllPairs-right : {X : Type 0} (R : X → X → Type 0) (xs ys : List X) → AllPairs R (xs ++ ys)
    → AllPairs R ys
AllPairs-right R xs ys all i j d less lt =
    grind (arith, nat_tests, length-append, get_or-append-add)

-- ---- two lists side by side

module _ {X Y : Type 0} where
  pub zip-within : (xs : List X) (ys : List Y) (n : ℕ) → n < length xs → n < length ys
      → n < length (zip xs ys)
  zip-within [] ys n below_x below_y = absurd (omega (arith, below_x))
  zip-within (x ∷ xs) [] n below_x below_y = absurd (omega (arith, below_y))
  zip-within (x ∷ xs) (y ∷ ys) zero below_x below_y = omega arith
  zip-within (x ∷ xs) (y ∷ ys) (suc n) below_x below_y =
      let below = zip-within xs ys n (omega (arith, below_x)) (omega (arith, below_y)) in
      omega (arith, below)

  pub zip-past : (xs : List X) (ys : List Y) (n : ℕ) → (length xs ≤ n) ⊎ (length ys ≤ n)
      → length (zip xs ys) ≤ n
  zip-past [] ys n few = omega arith
  zip-past (x ∷ xs) [] n few = omega arith
  zip-past (x ∷ xs) (y ∷ ys) zero (inl few) = absurd (omega (arith, few))
  zip-past (x ∷ xs) (y ∷ ys) zero (inr few) = absurd (omega (arith, few))
  zip-past (x ∷ xs) (y ∷ ys) (suc n) (inl few) = let less =
      zip-past xs ys n (inl (omega (arith, few))) in
      omega (arith, less)
  zip-past (x ∷ xs) (y ∷ ys) (suc n) (inr few) = let less =
      zip-past xs ys n (inr (omega (arith, few))) in
      omega (arith, less)

  pub flat_map-zip_more : (f : X × Y → List ℕ) (xs : List X) (ys : List Y) (n : ℕ) (x : X) (y : Y)
      → n < length xs → n < length ys
      → flat_map f (take (n + 1) (zip xs ys))
      ≡ flat_map f (take n (zip xs ys)) ++ f (get_or xs n x, get_or ys n y)
  flat_map-zip_more f xs ys n x y below_x below_y =
      ap (flat_map f) (take_more (zip xs ys) n (x, y) (zip-within xs ys n below_x below_y))
      ∙ flat_map-append f (take n (zip xs ys)) (get_or (zip xs ys) n (x, y) ∷ [])
      ∙ ap (λ p. flat_map f (take n (zip xs ys)) ++ flat_map f (p ∷ []))
      (get_or-zip xs ys n (x, y) below_x below_y)
      ∙ ap (λ t. flat_map f (take n (zip xs ys)) ++ t)
      (append-nil (f (get_or xs n x, get_or ys n y)))

-- one entry more
pub take-zip_more : {A B : Type 0} (xs : List A) (ys : List B) (i : ℕ) (d : A) (e : B)
    → i < length xs → i < length ys
    → take (i + 1) (zip xs ys) ≡ take i (zip xs ys) ++ (get_or xs i d, get_or ys i e) ∷ []
take-zip_more xs ys i d e l m =
    let there : i < length (zip xs ys) = (let n = length-zip xs ys in omega (arith, n, l, m)) in
    take_more (zip xs ys) i (d, e) there
    ∙ ap (λ p. take i (zip xs ys) ++ p ∷ []) (get_or-zip xs ys i (d, e) l m)

-- two lists side by side, each put together of two
pub zip-append : {A B : Type 0} (xs xs' : List A) (ys ys' : List B) → length ys ≡ length xs
    → zip (xs ++ xs') (ys ++ ys') ≡ zip xs ys ++ zip xs' ys'
zip-append [] xs' [] ys' e = refl
zip-append [] xs' (y ∷ ys) ys' e = absurd (omega arith)
zip-append (x ∷ xs) xs' [] ys' e = absurd (omega arith)
zip-append (x ∷ xs) xs' (y ∷ ys) ys' e =
    ap (λ zs. (x, y) ∷ zs) (zip-append xs xs' ys ys' (omega arith))

-- the pair at a place, with its number from 1
pub numbered-zip : {X Y : Type 0} (xs : List X) (ys : List Y) (n : ℕ) (x : X) (y : Y)
    → n < length xs → n < length ys
    → x ≡ get_or xs n x → y ≡ get_or ys n y → ◌≡◌ {A = ℕ × (X × Y)} (n + 1, (x, y))
    (get_or (range_with_len 1 (length xs)) n 0, get_or (zip xs ys) n (x, y))
numbered-zip {X} {Y} xs ys n x y below_x below_y is_x is_y =
    grind (arith, nat_tests, get_or-range_with_len, get_or-zip)

-- what each pair of entries has, after one more at both ends
pub both_pushed : {A B : Type 0} (P : ℕ → A → B → Type 0) (xs : List A) (ys : List B) (x : A)
    (y : B)
    → length ys ≡ length xs
    → ((i : ℕ) (a : A) (b : B) → slice_get xs i ≡ Some a → slice_get ys i ≡ Some b → P i a b)
    → P (length xs) x y
    → (i : ℕ) (a : A) (b : B) → slice_get (xs ++ x ∷ []) i ≡ Some a
    → slice_get (ys ++ y ∷ []) i ≡ Some b → P i a b
both_pushed P xs ys x y same each last i a b ea eb = grind (arith, nat_tests, slice_get-push_cases)
