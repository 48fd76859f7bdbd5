-- Counts of lists that are put together.
use Rattle.shared_lookup.proofs.Words.{◌≡◌, ℕ, suc, zero, ◌+◌, ◌-◌, ◌^◌, ◌<◌, Bool, true, false}
use Rattle.shared_lookup.proofs.Words.{List, [], ◌∷◌, ◌++◌, length, map, take, drop, get_or, min}
use Rattle.shared_lookup.proofs.Words.{refl, sym, ◌∙◌, ap, subst, cond, inl, inr, ⊎_elim, arith}
use Rattle.shared_lookup.proofs.Words.{length-append, count_by, Vec, take_more, Counts, CountsUpTo}
use Rattle.shared_lookup.proofs.Words.{CatalogEntries, Change, AreAsLong, ChangeOutcome}
use Rattle.shared_lookup.proofs.Words.{EachHasOutcome, entries}
use Rattle.std.proofs.lemmas.Grind.{flat_map-append}
use Rattle.std.proofs.lemmas.List.{append-nil}
use Rattle.std.proofs.lemmas.List.Recursion.{is_count_by}

module _ {X : Type 0} (holds : X → Type 0) where
  pub counts_append : (xs ys : List X) (n m : ℕ) → Counts holds xs n → Counts holds ys m
      → Counts holds (xs ++ ys) (n + m)
  counts_append [] ys n m c d = subst (λ k. Counts holds ys k) (let e = c in omega arith) d
  counts_append (x ∷ xs) ys n m c d =
      ⊎_elim
      (λ k. inl (k.0, counts_append xs ys n m k.1 d))
      (λ k. inr
      (k.0, (k.1.0 + m, counts_append xs ys k.1.0 m k.1.1 d, (let e = k.1.2 in omega arith))))
      c

  -- the same of counts that stay at the greatest u64
  pub up_to_append : (xs ys : List X) (a b r : ℕ) → CountsUpTo holds xs a → CountsUpTo holds ys b
      → r ≡ min (a + b) (2 ^ 64 - 1) → CountsUpTo holds (xs ++ ys) r
  up_to_append xs ys a b r c d is =
      (c.0 + d.0, counts_append xs ys c.0 d.0 c.1 d.1, (let e = c.2 in let f = d.2 in omega arith))

  pub up_to_yes : (xs : List X) (x : X) (a r : ℕ) → CountsUpTo holds xs a → holds x
      → r ≡ min (a + 1) (2 ^ 64 - 1) → CountsUpTo holds (xs ++ x ∷ []) r
  up_to_yes xs x a r c h is =
      up_to_append xs (x ∷ []) a 1 r c (1, inr (h, (0, refl, refl)), refl) is

  pub up_to_no : (xs : List X) (x : X) (a r : ℕ) → CountsUpTo holds xs a → (holds x → ⊥) → r ≡ a
      → CountsUpTo holds (xs ++ x ∷ []) r
  up_to_no xs x a r c h is = (
    c.0,
    subst (λ n. Counts holds (xs ++ x ∷ []) n) (omega arith)
        (counts_append xs (x ∷ []) c.0 0 c.1 (inl (h, refl))),
    is ∙ c.2,
  )

  abbrev tests : (X → Bool) → List X → ℕ
  tests f [] = 0
  tests f (x ∷ xs) = cond (f x) (1 + tests f xs) (tests f xs)

  counts_tests : (f : X → Bool) → ((x : X) → f x ≡ true → holds x)
      → ((x : X) → f x ≡ false → holds x → ⊥) → (xs : List X) → Counts holds xs (tests f xs)
  counts_tests f is not [] = refl
  counts_tests f is not (x ∷ xs) =
      let rest = counts_tests f is not xs in
      elim (f x) as (λ b. f x ≡ b → Counts holds (x ∷ xs) (cond b (1 + tests f xs) (tests f xs))) [
        | true ↦ λ e. inr (is x e, (tests f xs, rest, omega arith))
        | false ↦ λ e. inl (not x e, rest)
      ]
      refl

  -- by a test of the property
  pub counts_of : (f : X → Bool) → ((x : X) → f x ≡ true → holds x)
      → ((x : X) → f x ≡ false → holds x → ⊥) → (xs : List X) → Counts holds xs (count_by f xs)
  counts_of f is not xs =
      subst (λ n. Counts holds xs n) (is_count_by (tests f) f refl (λ x ys. refl) xs)
      (counts_tests f is not xs)

-- the entries of one list more
pub entries_more : {X : Type 0} (lists : List (Vec X)) (i : ℕ) (list : Vec X) → i < length lists
    → list ≡ get_or lists i list
    → entries (take (i + 1) lists) ≡ entries (take i lists) ++ list.items
entries_more lists i list l e =
    ap entries (take_more lists i list l)
    ∙ flat_map-append (λ (v : Vec _). v.items) (take i lists) (get_or lists i list ∷ [])
    ∙ ap (λ (v : Vec _). entries (take i lists) ++ (v.items ++ [])) (sym e)
    ∙ ap (λ xs. entries (take i lists) ++ xs) (append-nil list.items)

-- as many entries of the first lists
pub entries_same : {X Y : Type 0} (xs : List (Vec X)) (ys : List (Vec Y))
    → map (λ (v : Vec Y). length v.items) ys ≡ map (λ (v : Vec X). length v.items) xs
    → (i : ℕ) → length (entries (take i ys)) ≡ length (entries (take i xs))
entries_same [] [] e zero = refl
entries_same [] [] e (suc i) = refl
entries_same [] (b ∷ ys) e i = absurd (let f = ap length e in omega arith)
entries_same (a ∷ xs) [] e i = absurd (let f = ap length e in omega arith)
entries_same (a ∷ xs) (b ∷ ys) e zero = refl
entries_same (a ∷ xs) (b ∷ ys) e (suc i) =
    let here : length b.items ≡ length a.items = ap (λ ns. get_or ns 0 0) e in
    let rest = entries_same xs ys (ap (λ ns. drop 1 ns) e) i in
    length-append b.items (entries (take i ys)) ∙ (λ j. here j + rest j)
    ∙ sym (length-append a.items (entries (take i xs)))

-- as many outcomes as changes
pub each_as_long : (c : CatalogEntries) (changes : List (Vec Change))
    (outcomes : List (Vec ChangeOutcome)) → EachHasOutcome c changes outcomes
    → AreAsLong changes outcomes
each_as_long c [] [] all = refl
each_as_long c [] (o ∷ os) all = absurd (let s = all.same in omega arith)
each_as_long c (x ∷ xs) [] all = absurd (let s = all.same in omega arith)
each_as_long c (x ∷ xs) (o ∷ os) all =
    let here : length o.items ≡ length x.items =
    ⊎_elim (λ p. p.same) (λ q. q.0) (all.each 0 x o refl refl) in
    let rest = each_as_long c xs os (record {
      same = (let s = all.same in omega arith);
      each = λ i list made ex eo. all.each (suc i) list made ex eo;
    }) in
    λ j. here j ∷ rest j
