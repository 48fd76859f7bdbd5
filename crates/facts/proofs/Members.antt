-- Facts about the members of a list alone.
use Rattle.facts.proofs.Words.{◌++◌, ◌∷◌, ◌≡◌, ◌≢◌, List, Some, [], ap, arith, drop, inl, inr, map}
use Rattle.facts.proofs.Words.{subst, suc, sym, take, zero, ℕ, ⊎_elim, Contains, slice_get}
use Rattle.facts.proofs.Words.{take-append-drop, Contains-append_cases, Contains-append_left}
use Rattle.facts.proofs.Words.{Contains-append_right, get_or_from_slice_get, slice_get_within}
use Rattle.std.specs.Prelude.{◌⊎◌, insert, remove}
use Rattle.facts.proofs.Lists.{parted_at}

pub Contains-none : {X : Type 0} (x : X) → Contains [] x → ⊥
Contains-none x h = omega (arith, h.1)

pub Contains-head : {X : Type 0} (x y : X) (xs : List X) → x ≡ y → Contains (x ∷ xs) y
Contains-head x y xs e = (0, omega arith, e)

-- a member of the rest is one of the list
pub Contains-rest : {X : Type 0} (x y : X) (xs : List X) → Contains xs y → Contains (x ∷ xs) y
Contains-rest x y xs is = (suc is.0, omega (arith, is.1), is.2)

pub Contains-one : {X : Type 0} (x y : X) → Contains (x ∷ []) y → x ≡ y
Contains-one x y (zero, lt, e) = e
Contains-one x y (suc k, lt, e) = absurd (omega arith)

-- a member of a list is its head or of its rest
pub Contains-cons_cases : {X : Type 0} (x y : X) (xs : List X) → Contains (x ∷ xs) y
    → (x ≡ y) ⊎ Contains xs y
Contains-cons_cases x y xs h =
    ⊎_elim (λ e. inl (Contains-one x y e)) (λ e. inr e) (Contains-append_cases (x ∷ []) xs y h)

pub Contains-slice_get : {A : Type 0} (xs : List A) (k : ℕ) (x : A) → slice_get xs k ≡ Some x
    → Contains xs x
Contains-slice_get xs k x at = (k, slice_get_within xs k x at, get_or_from_slice_get xs k x x at)

pub Contains-map : {X Y : Type 0} (f : X → Y) (xs : List X) (x : X) → Contains xs x
    → Contains (map f xs) (f x)
Contains-map f (y ∷ xs) x (zero, lt, is) = (zero, omega arith, ap f is)
Contains-map f (y ∷ xs) x (suc k, lt, is) = let (j, less, there) =
    Contains-map f xs x (k, omega arith, is) in
    (suc j, omega arith, there)
Contains-map f [] x (k, lt, is) = absurd (omega arith)

-- ---- with an element put in, and with one taken out, at a place

pub Contains-insert_cases : {X : Type 0} (xs : List X) (i : ℕ) (x y : X)
    → Contains (insert xs i x) y → (y ≡ x) ⊎ Contains xs y
Contains-insert_cases xs i x y is =
    let whole : take i xs ++ drop i xs ≡ xs = take-append-drop i xs in
    ⊎_elim
    (λ front. inr
    (subst (λ zs. Contains zs y) whole (Contains-append_left (take i xs) (drop i xs) y front)))
    (λ back. ⊎_elim (λ e. inl (sym e)) (λ rest. inr
    (subst (λ zs. Contains zs y) whole (Contains-append_right (take i xs) (drop i xs) y rest)))
    (Contains-cons_cases x y (drop i xs) back))
    (Contains-append_cases (take i xs) (x ∷ drop i xs) y is)

pub Contains-insert : {X : Type 0} (xs : List X) (i : ℕ) (x y : X) → (y ≡ x) ⊎ Contains xs y
    → Contains (insert xs i x) y
Contains-insert xs i x y is =
    ⊎_elim
    (λ e. Contains-append_right (take i xs) (x ∷ drop i xs) y (0, omega arith, sym e))
    (λ old.
    ⊎_elim
    (λ front. Contains-append_left (take i xs) (x ∷ drop i xs) y front)
    (λ back.
    Contains-append_right (take i xs) (x ∷ drop i xs) y (Contains-rest x y (drop i xs) back))
    (Contains-append_cases (take i xs) (drop i xs) y (let whole : take i xs ++ drop i xs ≡ xs =
    take-append-drop i xs in subst (λ zs. Contains zs y) (sym whole) old)))
    is

pub Contains-remove : {X : Type 0} (xs : List X) (i : ℕ) (x y : X) → slice_get xs i ≡ Some x
    → Contains xs y × (y ≢ x) → Contains (remove xs i) y
Contains-remove xs i x y e (is, ne) =
    ⊎_elim
    (λ front. Contains-append_left (take i xs) (drop (suc i) xs) y front)
    (λ back. ⊎_elim (λ same. absurd (ne (sym same)))
    (λ rest. Contains-append_right (take i xs) (drop (suc i) xs) y rest)
    (Contains-cons_cases x y (drop (suc i) xs) back))
    (Contains-append_cases (take i xs) (x ∷ drop (suc i) xs) y
    (subst (λ zs. Contains zs y) (parted_at xs i x e) is))
