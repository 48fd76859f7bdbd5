-- What follows from an order's laws for tables.
use Rattle.order_laws.proofs.Words.{◌≡◌, ◌≢◌, ℕ, suc, ◌+◌, ◌≤◌, true, false, cond, List, [], ◌∷◌}
use Rattle.order_laws.proofs.Words.{◌++◌, length, Option, None, refl, sym, ◌∙◌, ap, subst, ⊎_elim}
use Rattle.order_laws.proofs.Words.{arith, Contains, AllByRecursion, Less, Equal}
use Rattle.order_laws.proofs.Words.{Greater, Item, Order, Precedes, IsLawful, IsTable, look, IsLook}
use Rattle.order_laws.proofs.Words.{with_item, without, all_at, all_filtered, all_left, all_right}
use Rattle.order_laws.proofs.Words.{all_weaker, Contains-cons_cases, Contains-rest}
use Rattle.std.proofs.Common.{Some}
use Rattle.std.specs.Ordering.{is_eq}
use Rattle.facts.proofs.Orderings.{cases_ordering, greater_not_equal, is_equal, less_not_equal}
use Rattle.facts.proofs.Orderings.{not_equal}
use Rattle.std.proofs.lemmas.Bool.Decides.{nat_tests}

-- where a table is split at an item
pub record Parted {K : Type 0} (o : Order K) (xs : List Item) (x : Item) (ys : List Item) : Type
    0 where
  pub left : IsTable o xs
  pub right : IsTable o ys
  pub before : AllByRecursion (λ y. Precedes o y x) xs
  pub behind : AllByRecursion (Precedes o x) ys
  pub here : o.valid x ≡ true

pub parted : {K : Type 0} (o : Order K) (xs : List Item) (x : Item) (ys : List Item)
    → IsTable o (xs ++ x ∷ ys) → Parted o xs x ys
parted o [] x ys t = record { left = tt; right = t.2; before = tt; behind = t.1; here = t.0 }
parted o (w ∷ xs) x ys t =
    let p = parted o xs x ys t.2 in
    let q = all_right (Precedes o w) xs (x ∷ ys) t.1 in
    record {
      left = (t.0, all_left (Precedes o w) xs (x ∷ ys) t.1, p.left);
      right = p.right;
      before = (q.0, p.before);
      behind = p.behind;
      here = p.here;
    }

-- a key that no item of a part has passes it by
look_past : {K : Type 0} (o : Order K) (k : K) (xs ys : List Item)
    → AllByRecursion (λ y. is_eq (o.comp k y) ≡ false) xs → look o k (xs ++ ys) ≡ look o k ys
look_past o k [] ys h = refl
look_past o k (x ∷ xs) ys h = rw h.0 (look_past o k xs ys h.1)

look_within : {K : Type 0} (o : Order K) (k : K) (xs ys : List Item)
    → AllByRecursion (λ y. is_eq (o.comp k y) ≡ false) ys → look o k (xs ++ ys) ≡ look o k xs
look_within o k [] [] h = refl
look_within o k [] (y ∷ ys) h = rw h.0 (look_within o k [] ys h.1)
look_within o k (x ∷ xs) ys h =
    ap (λ r. cond (is_eq (o.comp k x)) (Some x) r) (look_within o k xs ys h)

module _ {K : Type 0} (o : Order K) (law : IsLawful o) where
  -- at an item, the key goes left or right, or has found it
  pub look_less : (k : K) (xs : List Item) (x : Item) (ys : List Item) → IsTable o (xs ++ x ∷ ys)
      → o.comp k x ≡ Less → look o k (xs ++ x ∷ ys) ≡ look o k xs
  look_less k xs x ys t e =
      grind (arith, nat_tests, parted, look_within, less_not_equal, all_weaker)

  pub look_greater : (k : K) (xs : List Item) (x : Item) (ys : List Item) → IsTable o (xs ++ x ∷ ys)
      → o.comp k x ≡ Greater → look o k (xs ++ x ∷ ys) ≡ look o k ys
  look_greater k xs x ys t e =
      grind (arith, nat_tests, parted, look_past, all_weaker, greater_not_equal)

  pub look_equal : (k : K) (xs : List Item) (x : Item) (ys : List Item) → IsTable o (xs ++ x ∷ ys)
      → o.comp k x ≡ Equal → look o k (xs ++ x ∷ ys) ≡ Some x
  look_equal k xs x ys t e =
      grind (arith, nat_tests, parted, look_past, all_weaker, greater_not_equal, is_equal)

  -- the item that a key is in is the one that look gives
  pub look_only : (k : K) (table : List Item) (r : Option Item) → IsTable o table
      → IsLook o k table r → r ≡ look o k table
  look_only k [] None t h = refl
  look_only k [] (Some y) t h = absurd (omega (arith, h.0.1))
  look_only k (x ∷ xs) None t h =
      let e : is_eq (o.comp k x) ≡ false = not_equal (o.comp k x) (h x (0, omega arith, refl)) in
      rw e (look_only k xs None t.2 (λ y is. h y (suc is.0, omega (arith, is.1), is.2)))
  look_only k (x ∷ xs) (Some y) t h =
      ⊎_elim
      (λ same.
      let e : is_eq (o.comp k x) ≡ true =
      is_equal (o.comp k x) (subst (λ z. o.comp k z ≡ Equal) (sym same) h.1) in
      rw e (ap Some (sym same)))
      (λ is.
      let b : Precedes o x y = all_at (Precedes o x) xs y t.1 is in
      let e : is_eq (o.comp k x) ≡ false =
      greater_not_equal (o.comp k x) (law.in_greater k x y b h.1) in
      rw e (look_only k xs (Some y) t.2 (is, h.1)))
      (Contains-cons_cases x y xs h.0)

is_look_more : {K : Type 0} (o : Order K) (k : K) (x : Item) (xs : List Item) (r : Option Item)
    → o.comp k x ≢ Equal → IsLook o k xs r → IsLook o k (x ∷ xs) r
is_look_more o k x xs None ne h = λ y is. ⊎_elim (λ e. subst (λ z. o.comp k z ≢ Equal) e ne)
    (λ in'. h y in') (Contains-cons_cases x y xs is)
is_look_more o k x xs (Some y) ne h = (Contains-rest x y xs h.0, h.1)

-- and look gives one, in any list
pub look_is : {K : Type 0} (o : Order K) (k : K) (table : List Item)
    → IsLook o k table (look o k table)
look_is o k [] = λ x is. absurd (omega (arith, is.1))
look_is o k (x ∷ xs) =
    grind (arith, nat_tests, look_is o k xs, is_equal, not_equal, is_look_more, cases_ordering)

-- what updates keep
pub all_with_item : {K : Type 0} (o : Order K) (P : Item → Type 0) (i : Item) (xs : List Item) → P i
    → AllByRecursion P xs → AllByRecursion P (with_item o i xs)
all_with_item o P i [] p h = (p, tt)
all_with_item o P i (x ∷ xs) p h = grind (arith, nat_tests, all_with_item o P i xs p h.1)

pub length_with_item : {K : Type 0} (o : Order K) (i : Item) (xs : List Item)
    → length (with_item o i xs) ≡ length xs + 1
length_with_item o i [] = omega arith
length_with_item o i (x ∷ xs) = grind (arith, nat_tests, length_with_item o i xs)

pub length_without : (a : ℕ) (xs : List Item) → length (without a xs) ≤ length xs
length_without a [] = omega arith
length_without a (x ∷ xs) = grind (arith, nat_tests, length_without a xs)

pub without_table : {K : Type 0} (o : Order K) (a : ℕ) (xs : List Item) → IsTable o xs
    → IsTable o (without a xs)
without_table o a [] t = tt
without_table o a (x ∷ xs) t = grind (arith, nat_tests, without_table o a xs t.2, all_filtered)

module _ {K : Type 0} (o : Order K) (law : IsLawful o) where
  precedes_all : (i x : Item) (xs : List Item) → o.valid i ≡ true → o.less i x ≡ true
      → AllByRecursion (λ y. o.apart y i ≡ true) xs → AllByRecursion (Precedes o x) xs
      → AllByRecursion (Precedes o i) xs
  precedes_all i x [] v l free h = tt
  precedes_all i x (y ∷ xs) v l free h = (
    record {
      first_valid = v;
      second_valid = h.0.second_valid;
      is_apart = law.symmetric i y ∙ free.0;
      is_less = law.transitive i x y l h.0.is_less;
    },
    precedes_all i x xs v l free.1 h.1,
  )

  pub with_item_table : (i : Item) (xs : List Item) → o.valid i ≡ true
      → AllByRecursion (λ x. o.apart x i ≡ true) xs → IsTable o xs → IsTable o (with_item o i xs)
  with_item_table i [] v free t = (v, tt, tt)
  with_item_table i (x ∷ xs) v free t =
      grind (arith, nat_tests, with_item_table i xs v free.1 t.2, precedes_all, all_with_item)

-- what is found depends on the items alone
pub same_look : {K : Type 0} (o : Order K) (k : K) (xs ys : List Item) (r : Option Item)
    → ((x : Item) → Contains xs x → Contains ys x) → ((x : Item) → Contains ys x → Contains xs x)
    → IsLook o k xs r → IsLook o k ys r
same_look o k xs ys None f g h = λ x m. h x (g x m)
same_look o k xs ys (Some x) f g h = (f x h.0, h.1)
