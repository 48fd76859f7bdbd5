-- Facts about a test of the elements of a list alone: which pass, how many, and the first.
use Rattle.facts.proofs.Words.{◌&&◌, ◌++◌, ◌+◌, ◌-◌, ◌<◌, ◌||◌, ◌∙◌, ◌∷◌, ◌≡◌, ◌≤◌, Bool, Err, List}
use Rattle.facts.proofs.Words.{None, Ok, Option, Some, [], add-zero, ap, arith, cond, drop, false}
use Rattle.facts.proofs.Words.{get_or, inl, inr, length, length-append, map, not, refl, subst, suc}
use Rattle.facts.proofs.Words.{sym, take, true, zero, ℕ, ⊎_elim, All, count_by, filter, find, is_ok}
use Rattle.facts.proofs.Words.{is_some, AllByRecursion, list_all, list_any}
use Rattle.facts.proofs.Words.{position_from, IsBinarySearchResult, IsNonDecreasing, nat_cmp}
use Rattle.facts.proofs.Words.{bytes_eq, cases_Bool, cases_lt, eq-eqb, false_from_ne_true, ne_eqb}
use Rattle.facts.proofs.Words.{or_parts, get_or_default_zero, get_or-map, get_or_append_left}
use Rattle.facts.proofs.Words.{length-map, All-cons, All-head, All-nil, All-tail, Contains}
use Rattle.facts.proofs.Words.{slice_get, get_or_from_slice_get, slice_get-get_or, slice_get_within}
use Rattle.std.proofs.Common.{◌⊎◌}
use Rattle.std.specs.Prelude.{◌==◌, Result, nat_eq}
use Rattle.std.specs.Option.{option_map}
use Rattle.std.proofs.Math.Seq.{drop-nil, take-nil}
use Rattle.std.proofs.lemmas.List.Folds.{list_any_at, list_any_none}
use Rattle.std.proofs.lemmas.List.Sorted.{searched}
use Rattle.std.proofs.lemmas.List.Sums.{sum_by-cons}
use Rattle.facts.proofs.Bools.{and-false_if, count_either}
use Rattle.facts.proofs.Options.{cond-is_some}
use Rattle.facts.proofs.Bools.{left_of_or}
use Rattle.facts.proofs.Members.{Contains-head, Contains-rest}
use Rattle.std.proofs.lemmas.Bool.Decides.{nat_tests}
use Rattle.std.proofs.Common.{rules}

-- ---- whether any passes, or all

pub all_fail : {X : Type 0} (test : X → Bool) (xs : List X) → list_any test xs ≡ false
    → AllByRecursion (λ x. test x ≡ false) xs
all_fail test [] e = tt
all_fail test (x ∷ xs) e = let both = or_parts (test x) (list_any test xs) e in
    (both.0, all_fail test xs both.1)

pub list_any-all_fail : {X : Type 0} (test : X → Bool) (xs : List X)
    → AllByRecursion (λ x. test x ≡ false) xs → list_any test xs ≡ false
list_any-all_fail test [] h = refl
list_any-all_fail test (x ∷ xs) h =
    ap (λ b. b || list_any test xs) h.0 ∙ list_any-all_fail test xs h.1

-- a number that is above all is equal to none
pub list_any-above : (i : ℕ) (xs : List ℕ) → All (λ x. x < i) xs → list_any (nat_eq i) xs ≡ false
list_any-above i [] h = refl
list_any-above i (x ∷ xs) h =
    let lt : x < i = All-head (λ x. x < i) x xs h in
    let no : nat_eq i x ≡ false = ne_eqb i x (λ e. absurd (omega arith)) in
    rw no (list_any-above i xs (All-tail (λ x. x < i) x xs h))

pub All-from_list_any : {A : Type 0} (p : A → Bool) (xs : List A) → list_any p xs ≡ false
    → All (λ y. p y ≡ false) xs
All-from_list_any p xs none = λ k d lt. false_from_ne_true (p (get_or xs k d))
    (λ yes. let some : list_any p xs ≡ true = list_any_at p xs k d lt yes in cc)

pub list_all-agree : {A : Type 0} (p q : A → Bool) (xs : List A) → All (λ x. p x ≡ q x) xs
    → list_all p xs ≡ list_all q xs
list_all-agree p q [] same = refl
list_all-agree p q (x ∷ xs) same =
    let first : p x ≡ q x = All-head (λ y. p y ≡ q y) x xs same in
    let rest : list_all p xs ≡ list_all q xs =
    list_all-agree p q xs (All-tail (λ y. p y ≡ q y) x xs same) in
    ap (λ b. b && list_all p xs) first ∙ ap (λ b. q x && b) rest

pub list_all-each_agree : {X Y : Type 0} (p : Y → X → Bool) (xs ys : List X) (rs : List Y)
    → ((q : X → Bool) → list_all q xs ≡ list_all q ys)
    → list_all (λ r. list_all (p r) xs) rs ≡ list_all (λ r. list_all (p r) ys) rs
list_all-each_agree p xs ys [] same = refl
list_all-each_agree p xs ys (r ∷ rs) same =
    grind (arith, nat_tests, list_all-each_agree p xs ys rs same)

-- a binary search finds what is there
pub list_any-binary_search : (xs : List ℕ) (a : ℕ) (r : Result ℕ ℕ) →
    IsBinarySearchResult (λ y. nat_cmp y a) xs r → IsNonDecreasing xs →
    is_ok r ≡ list_any (λ x. x == a) xs
list_any-binary_search xs a (Ok i) is rise =
    let at = searched xs a (Ok i) is (λ i j le lt. rise i j 0 le lt) in
    sym (list_any_at (λ x. x == a) xs i 0 at.0 (eq-eqb (get_or xs i 0) a at.1))
list_any-binary_search xs a (Err i) is rise =
    let at = searched xs a (Err i) is (λ i j le lt. rise i j 0 le lt) in
    sym (list_any_none (λ x. x == a) xs (λ k d lt.
    let same = get_or_default_zero xs k d lt in
    ne_eqb (get_or xs k d) a (λ e.
    ⊎_elim (λ below. let l = at.1 k below in absurd (omega (arith, l, e, same)))
    (λ above. let l = at.2 k above lt in absurd (omega (arith, l, e, same))) (cases_lt k i))))

-- ---- which elements pass, and how many

pub length-filter_le : {X : Type 0} (test : X → Bool) (xs : List X)
    → length (filter test xs) ≤ length xs
length-filter_le test [] = omega arith
length-filter_le test (x ∷ xs) = grind (arith, nat_tests, length-filter_le test xs)

pub count_by-either : {A : Type 0} (p : A → Bool) (xs : List A)
    → count_by p xs + count_by (λ x. not (p x)) xs ≡ length xs
count_by-either p [] = omega arith
count_by-either p (x ∷ xs) = omega (
  arith,
  count_by-either p xs,
  count_either (p x),
  sum_by-cons (λ y. cond (p y) 1 0) x xs,
  sum_by-cons (λ y. cond (not (p y)) 1 0) x xs,
)

-- where those that pass lie between two places
pub filter-middle : {A : Type 0} (q : A → Bool) (xs : List A) (i j : ℕ) → i ≤ j
    → ((k : ℕ) (d : A) → k < i → k < length xs → q (get_or xs k d) ≡ false)
    → ((k : ℕ) (d : A) → i ≤ k → k < j → k < length xs → q (get_or xs k d) ≡ true)
    → ((k : ℕ) (d : A) → j ≤ k → k < length xs → q (get_or xs k d) ≡ false)
    → filter q xs ≡ take (j - i) (drop i xs)
filter-middle q [] i j le before within after =
    sym (ap (take (j - i)) (drop-nil i) ∙ take-nil (j - i))
filter-middle q (x ∷ xs) zero zero le before within after =
    let here : q x ≡ false = after 0 x (omega arith) (omega arith) in
    let rest : filter q xs ≡ take (0 - 0) (drop 0 xs) =
    filter-middle q xs 0 0 (omega arith) (λ k d lt l. absurd (omega arith)) (λ k d l lt w.
    absurd (omega arith)) (λ k d l lt. after (suc k) d (omega arith) (omega arith)) in
    rw here rest
filter-middle q (x ∷ xs) zero (suc j) le before within after =
    let here : q x ≡ true = within 0 x (omega arith) (omega arith) (omega arith) in
    let rest : filter q xs ≡ take (j - 0) (drop 0 xs) =
    filter-middle q xs 0 j (omega arith) (λ k d lt l. absurd (omega arith))
    (λ k d l lt w. within (suc k) d (omega arith) (omega arith) (omega arith))
    (λ k d l lt. after (suc k) d (omega arith) (omega arith)) in
    let count : suc j - 0 ≡ suc (j - 0) = omega arith in
    rw (here, count) (ap (λ ys. x ∷ ys) rest)
filter-middle q (x ∷ xs) (suc i) zero le before within after = absurd (omega arith)
filter-middle q (x ∷ xs) (suc i) (suc j) le before within after =
    let here : q x ≡ false = before 0 x (omega arith) (omega arith) in
    let rest : filter q xs ≡ take (j - i) (drop i xs) =
    filter-middle q xs i j (omega arith) (λ k d lt l. before (suc k) d (omega arith)
    (omega arith)) (λ k d l lt w. within (suc k) d (omega arith) (omega arith) (omega arith))
    (λ k d l lt. after (suc k) d (omega arith) (omega arith)) in
    let count : suc j - suc i ≡ j - i = omega arith in
    rw (here, count) rest

-- an element that passes, or none
pub some_passes : {A : Type 0} (p : A → Bool) (xs : List A)
    → (length (filter p xs) ≡ 0)
    ⊎ ((k : ℕ) × (k < length xs) × ((d : A) → p (get_or xs k d) ≡ true))
some_passes p [] = inl refl
some_passes p (x ∷ xs) =
    elim (p x) as (λ b. p x ≡ b → (length (cond b (x ∷ filter p xs) (filter p xs)) ≡ 0)
    ⊎ ((k : ℕ) × (k < length (x ∷ xs)) × ((d : _) → p (get_or (x ∷ xs) k d) ≡ true))) [
      | true ↦ λ yes. inr (0, omega arith, λ d. yes)
      | false ↦ λ no. ⊎_elim (λ none. inl none)
          (λ some. inr (suc some.0, omega (arith, some.1), λ d. some.2 d)) (some_passes p xs)
    ] refl

-- ---- the first that passes

pub find-passes : {A : Type 0} (p : A → Bool) (xs : List A) (x : A) → find p xs ≡ Some x
    → p x ≡ true
find-passes p [] x h = absurd (cc)
find-passes p (y ∷ ys) x h =
    elim (p y) as (λ b. p y ≡ b → cond b (Some y) (find p ys) ≡ Some x → p x ≡ true) [
      | true ↦ λ passes is. let same : y ≡ x = cc in ap p (sym same) ∙ passes
      | false ↦ λ _ rest. find-passes p ys x rest
    ] refl h

pub find-agree : {A : Type 0} (p q : A → Bool) (xs : List A) → All (λ x. p x ≡ q x) xs
    → find p xs ≡ find q xs
find-agree p q [] same = refl
find-agree p q (x ∷ xs) same =
    let first : p x ≡ q x = All-head (λ y. p y ≡ q y) x xs same in
    let rest : find p xs ≡ find q xs = find-agree p q xs (All-tail (λ y. p y ≡ q y) x xs same) in
    ap (λ b. cond b (Some x) (find p xs)) first ∙ ap (λ o. cond (q x) (Some x) o) rest

pub find-first : {A : Type 0} (p : A → Bool) (xs : List A) (i : ℕ) (d : A) → i < length xs
    → p (get_or xs i d) ≡ true → ((k : ℕ) → k < i → p (get_or xs k d) ≡ false)
    → find p xs ≡ Some (get_or xs i d)
find-first p [] i d lt here before = absurd (omega arith)
find-first p (x ∷ xs) zero d lt here before = rw here
find-first p (x ∷ xs) (suc i) d lt here before =
    let first : p x ≡ false = before 0 (omega arith) in
    rw first (find-first p xs i d (omega arith) here (λ k less. before (suc k) (omega arith)))

pub find-none : {A : Type 0} (p : A → Bool) (xs : List A) → All (λ x. p x ≡ false) xs
    → find p xs ≡ None
find-none p [] none = refl
find-none p (x ∷ xs) none =
    let first : p x ≡ false = All-head (λ y. p y ≡ false) x xs none in
    rw first (find-none p xs (All-tail (λ y. p y ≡ false) x xs none))

pub All-from_find : {A : Type 0} (p : A → Bool) (xs : List A) → find p xs ≡ None
    → All (λ x. p x ≡ false) xs
All-from_find p [] h = All-nil (λ x. p x ≡ false)
All-from_find p (y ∷ ys) h =
    elim (p y) as (λ b. p y ≡ b → cond b (Some y) (find p ys) ≡ None
    → All (λ x. p x ≡ false) (y ∷ ys)) [
      | true ↦ λ _ is. absurd (cc)
      | false ↦ λ fails rest. All-cons (λ x. p x ≡ false) y ys fails (All-from_find p ys rest)
    ] refl h

-- what all elements have, the first that passes has
pub find-has : {A : Type 0} (p : A → Bool) (xs : List A) (x : A) → find p xs ≡ Some x
    → (P : A → Type 0) → All P xs → P x
find-has p [] x h P all = absurd (cc)
find-has p (y ∷ ys) x h P all =
    elim (p y) as (λ b. cond b (Some y) (find p ys) ≡ Some x → P x) [
      | true ↦ λ is. let same : y ≡ x = cc in subst P same (All-head P y ys all)
      | false ↦ λ rest. find-has p ys x rest P (All-tail P y ys all)
    ] h

-- where all that pass have one number, the first that passes has it
pub find-number : {A : Type 0} (p : A → Bool) (f : A → ℕ) (xs : List A) (a : ℕ)
    → All (λ x. p x ≡ true → f x ≡ a) xs → list_any p xs ≡ true → option_map f (find p xs) ≡ Some a
find-number p f [] a all some = absurd (cc)
find-number p f (x ∷ xs) a all some =
    elim (p x) as (λ b. (b ≡ true → f x ≡ a) → (b || list_any p xs) ≡ true
    → option_map f (cond b (Some x) (find p xs)) ≡ Some a) [
      | true ↦ λ here _. ap (λ n. Some n) (here refl)
      | false ↦ λ _ rest. find-number p f xs a (All-tail (λ y. p y ≡ true → f y ≡ a) x xs all) rest
    ] (All-head (λ y. p y ≡ true → f y ≡ a) x xs all) some

-- ---- the first that passes, among those that pass another test

pub find-filter : {A : Type 0} (p q : A → Bool) (xs : List A)
    → find p (filter q xs) ≡ find (λ x. q x && p x) xs
find-filter p q [] = refl
find-filter p q (x ∷ xs) = grind (arith, nat_tests, find-filter p q xs)

pub list_all-filter : {A : Type 0} (r q : A → Bool) (xs : List A)
    → list_all r (filter q xs) ≡ list_all (λ x. not (q x) || r x) xs
list_all-filter r q [] = refl
list_all-filter r q (x ∷ xs) = grind (arith, nat_tests, list_all-filter r q xs)

-- one test more, which does not tell apart what the other finds
pub find-neither : {A : Type 0} (e p : A → Bool) (xs : List A)
    → All (λ x. p x ≡ true → e x ≡ false) xs → find (λ x. e x && p x) xs ≡ None
find-neither e p [] all = refl
find-neither e p (x ∷ xs) all =
    let here : (e x && p x) ≡ false =
    and-false_if (e x) (p x) (All-head (λ y. p y ≡ true → e y ≡ false) x xs all) in
    rw here (find-neither e p xs (All-tail (λ y. p y ≡ true → e y ≡ false) x xs all))

pub find-both_none : {A : Type 0} (e p : A → Bool) (xs : List A) → find p xs ≡ None
    → find (λ x. e x && p x) xs ≡ None
find-both_none e p [] h = refl
find-both_none e p (x ∷ xs) h =
    elim (p x) as (λ b. p x ≡ b → cond b (Some x) (find p xs) ≡ None
    → find (λ y. e y && p y) (x ∷ xs) ≡ None) [
      | true ↦ λ _ is. absurd (cc)
      | false ↦ λ fails rest. let here : (e x && p x) ≡ false =
          and-false_if (e x) (p x) (λ yes. absurd (cc)) in
          rw here (find-both_none e p xs rest)
    ] refl h

pub find-both_some : {A : Type 0} (e p : A → Bool) (xs : List A) (s : A) → find p xs ≡ Some s
    → All (λ x. p x ≡ true → e x ≡ e s) xs → find (λ x. e x && p x) xs ≡ cond (e s) (Some s) None
find-both_some e p [] s h all = absurd (cc)
find-both_some e p (x ∷ xs) s h all =
    elim (p x) as (λ b. p x ≡ b → cond b (Some x) (find p xs) ≡ Some s
    → find (λ y. e y && p y) (x ∷ xs) ≡ cond (e s) (Some s) None) [
      | true ↦ λ passes is.
          let same : x ≡ s = cc in
          let at : e x ≡ e s = ap e same in
          elim (e s) as (λ b. e s ≡ b
          → cond (e x && p x) (Some x) (find (λ y. e y && p y) xs) ≡ cond b (Some s) None) [
            | true ↦ λ yes. let here : e x ≡ true = at ∙ yes in
                rw (here, passes) (ap (λ y. Some y) same)
            | false ↦ λ no.
                let here : e x ≡ false = at ∙ no in
                rw here (find-neither e p xs (λ k d lt k_passes.
                All-tail (λ y. p y ≡ true → e y ≡ e s) x xs all k d lt k_passes ∙ no))
          ] refl
      | false ↦ λ fails rest.
          let here : (e x && p x) ≡ false = and-false_if (e x) (p x) (λ yes. absurd (cc)) in
          rw here (find-both_some e p xs s rest (All-tail (λ y. p y ≡ true → e y ≡ e s) x xs all))
    ] refl h

-- ---- the place of the first that passes

-- a place is found exactly where some element passes
pub is_some-position_from : {A : Type 0} (test : A → Bool) (i : ℕ) (xs : List A)
    → is_some (position_from test i xs) ≡ list_any test xs
is_some-position_from test i [] = refl
is_some-position_from test i (x ∷ xs) =
    grind (arith, nat_tests, is_some-position_from test (i + 1) xs)

-- one more element at the end
pub position_from-push : {A : Type 0} (test : A → Bool) (i : ℕ) (xs : List A) (y : A)
    → position_from test i (xs ++ y ∷ []) ≡ cond (is_some (position_from test i xs))
    (position_from test i xs) (cond (test y) (Some (i + length xs)) None)
position_from-push test i [] y = rw (add-zero) refl
position_from-push test i (x ∷ xs) y =
    grind (arith, nat_tests, position_from-push test (i + 1) xs y)

pub position_from-last : (b1 b2 : Bool) (n m : ℕ) (o : Option ℕ) → b1 ≡ true → b2 ≡ true
    → is_some o ≡ false → n ≡ m → cond b1 (Some n) o ≡ cond (is_some o) o (cond b2 (Some m) None)
position_from-last b1 b2 n m o h k none e = rw (h, k, none) (ap (λ x. Some x) e)

pub position_from-kept : (b1 b2 : Bool) (n m : ℕ) (o : Option ℕ) → b1 ≡ false → b2 ≡ false
    → cond b1 (Some n) o ≡ cond (is_some o) o (cond b2 (Some m) None)
position_from-kept b1 b2 n m o h k = rw (h, k) (cond-is_some o)

-- the place of a name once one more name that was not there stands at the end
pub position_from-new : (names : List (List ℕ)) (new name : List ℕ) (n : ℕ)
    → list_any (bytes_eq new) names ≡ false → n ≡ length names
    → cond (bytes_eq new name) (Some n) (position_from (bytes_eq name) 0 names)
    ≡ position_from (bytes_eq name) 0 (names ++ new ∷ [])
position_from-new names new name n absent last =
    search (
      rules,
      position_from-push,
      is_some-position_from,
      position_from-last,
      false_from_ne_true,
      position_from-kept,
      cases_Bool,
    )

-- ---- what each of some elements is made into

-- where a front of a list is made of some elements, and all of it is one value
pub All-map_same : {B R : Type 0} (f : B → R) (bs : List B) (ys rest every : List R) (r : R)
    → map f bs ≡ ys → every ≡ ys ++ rest
    → All (λ x. x ≡ r) every → All (λ b. f b ≡ r) bs
All-map_same f bs ys rest every r made gone is k d lt =
    let len : length bs ≡ length ys = sym (length-map bs f) ∙ ap length made in
    sym (get_or-map f bs k d (f d) lt) ∙ ap (λ l. get_or l k (f d)) made
    ∙ sym (get_or_append_left ys rest (f d) k (omega (arith, len)))
    ∙ ap (λ l. get_or l k (f d)) (sym gone)
    ∙ is k (f d) (omega (arith, len, ap length gone, length-append ys rest))

-- ---- the least and the first element that passes

-- of the elements that pass, one of the least measure
pub record IsLeast {A : Type 0} (passes : A → Bool) (measure : A → ℕ) (xs : List A) (x : A) : Type
    0 where
  pub there : Contains xs x
  pub passing : passes x ≡ true
  pub least : All (λ y. passes y ≡ true → measure x ≤ measure y) xs

pub least_in : {A : Type 0} (p : A → Bool) (m : A → ℕ) (xs : List A) → list_any p xs ≡ true
    → (x : A) × IsLeast p m xs x
least_in p m [] some = absurd (cc)
least_in p m (x ∷ xs) some =
    ⊎_elim
    (λ rest.
    let best = least_in p m xs rest in
    ⊎_elim
    (λ yes. ⊎_elim
    (λ less. (
      x,
      record {
        there = Contains-head x x xs refl;
        passing = yes;
        least = All-cons (λ y. p y ≡ true → m x ≤ m y) x xs (λ _. omega arith) (λ k d lt passes.
            let b : m best.0 ≤ m (get_or xs k d) = best.1.least k d lt passes in omega arith);
      },
    ))
    (λ least. (
      best.0,
      record {
        there = Contains-rest x best.0 xs best.1.there;
        passing = best.1.passing;
        least = All-cons (λ y. p y ≡ true → m best.0 ≤ m y) x xs (λ _. least) best.1.least;
      },
    ))
    (cases_lt (m x) (m best.0)))
    (λ no. (
      best.0,
      record {
        there = Contains-rest x best.0 xs best.1.there;
        passing = best.1.passing;
        least = All-cons (λ y. p y ≡ true → m best.0 ≤ m y) x xs (λ yes. absurd (cc)) best.1.least;
      },
    ))
    (cases_Bool (p x)))
    (λ none. (
      x,
      record {
        there = Contains-head x x xs refl;
        passing = left_of_or (p x) (list_any p xs) some none;
        least = All-cons (λ y. p y ≡ true → m x ≤ m y) x xs (λ _. omega arith)
            (λ k d lt passes. let fails : p (get_or xs k d) ≡ false =
            All-from_list_any p xs none k d lt in absurd (cc));
      },
    ))
    (cases_Bool (list_any p xs))

-- the first element that passes, by its place
pub record IsFirstAt {A : Type 0} (p : A → Bool) (xs : List A) (x : A) (place : ℕ) : Type 0 where
  pub at : slice_get xs place ≡ Some x
  pub before : (j : ℕ) (d : A) → j < place → p (get_or xs j d) ≡ false

pub find_place : {A : Type 0} (p : A → Bool) (xs : List A) (x : A) → find p xs ≡ Some x
    → (place : ℕ) × IsFirstAt p xs x place
find_place p [] x h = absurd (cc)
find_place p (y ∷ ys) x h =
    elim (p y) as (λ b. p y ≡ b → cond b (Some y) (find p ys) ≡ Some x
    → (place : ℕ) × IsFirstAt p (y ∷ ys) x place) [
      | true ↦ λ _ is. (
        0,
        record {
          at = slice_get-get_or (y ∷ ys) 0 y (omega arith) ∙ is;
          before = λ j d lt. absurd (omega arith);
        },
      )
      | false ↦ λ fails rest.
          let there = find_place p ys x rest in
          let within : there.0 < length ys = slice_get_within ys there.0 x there.1.at in (
            suc there.0,
            record {
              at = slice_get-get_or (y ∷ ys) (suc there.0) x (omega arith)
                  ∙ ap (λ z. Some z) (get_or_from_slice_get ys there.0 x x there.1.at);
              before = λ j d lt. before_rest p y ys there.0 fails there.1.before j d lt;
            },
          )
    ] refl h
  where
    before_rest : {A : Type 0} (p : A → Bool) (y : A) (ys : List A) (k : ℕ) → p y ≡ false
        → ((j : ℕ) (d : A) → j < k → p (get_or ys j d) ≡ false) → (j : ℕ) (d : A) → j < suc k
        → p (get_or (y ∷ ys) j d) ≡ false
    before_rest p y ys k first others zero d lt = first
    before_rest p y ys k first others (suc j) d lt = others j d (omega arith)
