-- Facts about lists and the places in them alone.
use Rattle.facts.proofs.Words.{◌++◌, ◌+◌, ◌<◌, ◌∙◌, ◌∷◌, ◌≡◌, ◌≤◌, List, Some, [], ap}
use Rattle.facts.proofs.Words.{append_assoc, arith, drop, false, get_or, inl, inr, length, map}
use Rattle.facts.proofs.Words.{refl, suc, sym, take, zero, ℕ, slice_get}
use Rattle.facts.proofs.Words.{onto_first, swap_remove, lt-ltb, take-set}
use Rattle.facts.proofs.Words.{take-take, take_more, Option, None, filter_map, cons_option}
use Rattle.facts.proofs.Words.{filter_map-append}
use Rattle.std.proofs.Common.{append-nil}
use Rattle.std.specs.Prelude.{◌⊎◌, insert, nat_lt, remove}
use Rattle.std.specs.Global.{Vec}
use mathlib.Core.List.{IsPrefix}
use Rattle.std.proofs.lemmas.Bool.Decides.{nat_tests}

-- ---- joined lists

-- an element between two lists
pub pushed_before : {X : Type 0} (x : X) (xs ys : List X) → (xs ++ x ∷ []) ++ ys ≡ xs ++ x ∷ ys
pushed_before x xs ys = append_assoc xs (x ∷ []) ys

-- one element of the rest goes over to the front
pub moved_over : {X : Type 0} (all done rest after : List X) (x : X) → done ++ rest ≡ all
    → rest ≡ x ∷ after → (done ++ x ∷ []) ++ after ≡ all
moved_over all done rest after x joined cut =
    append_assoc done (x ∷ []) after ∙ ap (λ xs. done ++ xs) (sym cut) ∙ joined

-- what was taken of a list, the rest of it, and one list more
pub gathered : {A : Type 0} (before taken mid more rest new text so_far : List A)
    → taken ++ mid ≡ before ++ so_far → more ++ rest ≡ mid ++ [] → new ≡ rest ++ text
    → (taken ++ more) ++ new ≡ before ++ (so_far ++ text)
gathered before taken mid more rest new text so_far first second third =
    grind (arith, nat_tests, append_assoc, append-nil)

pub append_nil_left : {X : Type 0} (xs ys : List X) → xs ++ ys ≡ [] → xs ≡ []
append_nil_left [] ys e = refl
append_nil_left (x ∷ xs) ys e = absurd (let f = ap length e in omega arith)

pub append_nil_right : {X : Type 0} (xs ys : List X) → xs ++ ys ≡ [] → ys ≡ []
append_nil_right [] ys e = e
append_nil_right (x ∷ xs) ys e = absurd (let f = ap length e in omega arith)

pub IsPrefix-whole : {X : Type 0} (xs : List X) → IsPrefix xs xs
IsPrefix-whole xs = ([], append-nil xs)

pub IsPrefix-along : {X : Type 0} (xs ys zs : List X) → IsPrefix xs ys → IsPrefix ys zs
    → IsPrefix xs zs
IsPrefix-along xs ys zs p q =
    (p.0 ++ q.0, sym (append_assoc xs p.0 q.0) ∙ (ap (λ z. z ++ q.0) p.1 ∙ q.1))

pub nil-from_length : {X : Type 0} (xs : List X) → nat_lt 0 (length xs) ≡ false → xs ≡ []
nil-from_length [] e = refl
nil-from_length (x ∷ xs) e = grind (arith, nat_tests, lt-ltb)

pub length-onto_first : (x : ℕ) (lines : List (List ℕ))
    → length (onto_first x lines) ≤ length lines + 1
length-onto_first x [] = omega arith
length-onto_first x (line ∷ lines) = omega arith

-- lists of as long lists are as long
pub length-map_same : {X Y : Type 0} (xs : List (Vec X)) (ys : List (Vec Y))
    → map (λ (v : Vec Y). length v.items) ys ≡ map (λ (v : Vec X). length v.items) xs
    → length ys ≡ length xs
length-map_same [] [] e = refl
length-map_same [] (b ∷ ys) e = absurd (let f = ap length e in omega arith)
length-map_same (a ∷ xs) [] e = absurd (let f = ap length e in omega arith)
length-map_same (a ∷ xs) (b ∷ ys) e = ap suc (length-map_same xs ys (ap (λ ns. drop 1 ns) e))

pub length-map_same_at : {X Y : Type 0} (xs : List (Vec X)) (ys : List (Vec Y))
    → map (λ (v : Vec Y). length v.items) ys ≡ map (λ (v : Vec X). length v.items) xs
    → (i : ℕ) (x : Vec X) (y : Vec Y) → i < length xs → x ≡ get_or xs i x → y ≡ get_or ys i y
    → length y.items ≡ length x.items
length-map_same_at [] ys e i x y l ex ey = absurd (omega arith)
length-map_same_at (a ∷ xs) [] e i x y l ex ey = absurd (let f = ap length e in omega arith)
length-map_same_at (a ∷ xs) (b ∷ ys) e zero x y l ex ey =
    rw ex (rw ey (ap (λ ns. get_or ns 0 0) e))
length-map_same_at (a ∷ xs) (b ∷ ys) e (suc i) x y l ex ey =
    length-map_same_at xs ys (ap (λ ns. drop 1 ns) e) i x y (omega arith) ex ey

-- ---- the front of a list, and one element more of it

pub take_push : {X : Type 0} (xs : List X) (i : ℕ) (x : X) → i < length xs → x ≡ get_or xs i x
    → take i xs ++ x ∷ [] ≡ take (i + 1) xs
take_push xs i x lt is = ap (λ y. take i xs ++ y ∷ []) is ∙ sym (take_more xs i x lt)

-- the front of a list, after an element beyond it was taken out
pub take-swap_remove : {X : Type 0} (xs : List X) (i : ℕ) (d : X) → i < length xs
    → take i (swap_remove xs i d) ≡ take i xs
take-swap_remove xs i d lt = grind (arith, nat_tests, take-take, take-set)

pub take-append_whole : {X : Type 0} (xs ys : List X) → take (length xs) (xs ++ ys) ≡ xs
take-append_whole [] ys = refl
take-append_whole (x ∷ xs) ys = ap (λ zs. x ∷ zs) (take-append_whole xs ys)

-- ---- the element at a place

-- a list is split at a place
pub parted_at : {X : Type 0} (xs : List X) (i : ℕ) (x : X) → slice_get xs i ≡ Some x
    → xs ≡ take i xs ++ x ∷ drop (suc i) xs
parted_at [] i x e = absurd (cc)
parted_at (y ∷ xs) zero x e = let same : y ≡ x = cc in ap (λ z. z ∷ xs) same
parted_at (y ∷ xs) (suc i) x e = ap (λ ys. y ∷ ys) (parted_at xs i x e)

pub first_and_rest : {X : Type 0} (xs : List X) (s : X) → slice_get xs 0 ≡ Some s
    → xs ≡ s ∷ drop 1 xs
first_and_rest [] s e = absurd (cc)
first_and_rest (x ∷ xs) s e = let same : x ≡ s = cc in ap (λ y. y ∷ xs) same

pub slice_get_some : {X : Type 0} (xs : List X) (i : ℕ) → i < length xs
    → (x : X) × (slice_get xs i ≡ Some x)
slice_get_some [] i l = absurd (omega arith)
slice_get_some (x ∷ xs) zero l = (x, refl)
slice_get_some (x ∷ xs) (suc i) l = slice_get_some xs i (omega arith)

pub slice_get-between : {X : Type 0} (xs ys : List X) (y : X)
    → slice_get (xs ++ y ∷ ys) (length xs) ≡ Some y
slice_get-between [] ys y = refl
slice_get-between (x ∷ xs) ys y = slice_get-between xs ys y

-- an entry of a list with one more at its end
pub slice_get-push_cases : {X : Type 0} (xs : List X) (u v : X) (j : ℕ)
    → slice_get (xs ++ u ∷ []) j ≡ Some v
    → ((j < length xs) × (slice_get xs j ≡ Some v)) ⊎ ((j ≡ length xs) × (u ≡ v))
slice_get-push_cases [] u v zero e = inr (refl, cc)
slice_get-push_cases [] u v (suc j) e = absurd cc
slice_get-push_cases (x ∷ xs) u v zero e = inl (omega arith, e)
slice_get-push_cases (x ∷ xs) u v (suc j) e =
    grind (arith, nat_tests, slice_get-push_cases xs u v j e)

-- the place of an element of a list is also that of what is made of it
pub get_or-map_default : {X Y : Type 0} (f : X → Y) (xs : List X) (i : ℕ) (d : X)
    → get_or (map f xs) i (f d) ≡ f (get_or xs i d)
get_or-map_default f [] i d = refl
get_or-map_default f (x ∷ xs) zero d = refl
get_or-map_default f (x ∷ xs) (suc i) d = get_or-map_default f xs i d

-- ---- an element put in, or taken out, at a place

pub length-insert : {X : Type 0} (xs : List X) (i : ℕ) (x : X) →
    length (insert xs i x) ≡ suc (length xs)
length-insert xs zero x = refl
length-insert [] (suc i) x = refl
length-insert (y ∷ xs) (suc i) x = ap suc (length-insert xs i x)

pub length-remove_at : {X : Type 0} (xs : List X) (i : ℕ) (x : X) → slice_get xs i ≡ Some x →
    suc (length (remove xs i)) ≡ length xs
length-remove_at [] i x e = absurd (cc)
length-remove_at (y ∷ xs) zero x e = refl
length-remove_at (y ∷ xs) (suc i) x e = ap suc (length-remove_at xs i x e)

pub map-insert : {X Y : Type 0} (f : X → Y) (xs : List X) (i : ℕ) (x : X)
    → map f (insert xs i x) ≡ insert (map f xs) i (f x)
map-insert f xs zero x = refl
map-insert f [] (suc i) x = refl
map-insert f (y ∷ xs) (suc i) x = ap (λ ys. f y ∷ ys) (map-insert f xs i x)

pub map-remove : {X Y : Type 0} (f : X → Y) (xs : List X) (i : ℕ)
    → map f (remove xs i) ≡ remove (map f xs) i
map-remove f [] zero = refl
map-remove f (y ∷ xs) zero = refl
map-remove f [] (suc i) = refl
map-remove f (y ∷ xs) (suc i) = ap (λ ys. f y ∷ ys) (map-remove f xs i)

-- ---- what a function gives of the elements, and of one more

module _ {A T : Type 0} (f : A → Option T) (xs : List A) (x : A) where
  pub one_given_more : (t : T) → f x ≡ Some t
      → filter_map f (xs ++ x ∷ []) ≡ filter_map f xs ++ t ∷ []
  one_given_more t is =
      filter_map-append f xs (x ∷ []) ∙ ap (λ o. filter_map f xs ++ cons_option o []) is

  pub none_given_more : f x ≡ None → filter_map f (xs ++ x ∷ []) ≡ filter_map f xs
  none_given_more is = grind (arith, nat_tests, filter_map-append, append-nil)
