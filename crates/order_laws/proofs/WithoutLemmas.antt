-- What is in a table without some first words.
use Rattle.order_laws.proofs.Words.{◌++◌, ◌+◌, ◌∙◌, ◌∷◌, ◌≡◌, ◌≢◌, ◌≤◌, List, [], ap, arith, cond}
use Rattle.order_laws.proofs.Words.{false, length, refl, sym, true, ℕ, ⊎_elim, ◌==◌, ◌||◌, filter}
use Rattle.order_laws.proofs.Words.{not, AllByRecursion, list_any, cases_eq, eq-eqb, eqb-true}
use Rattle.order_laws.proofs.Words.{ne_eqb, or_parts, all_filtered, Order, IsTable, has}
use Rattle.order_laws.proofs.Words.{without, without_all, Item}
use Rattle.std.specs.Prelude.{Bool}
use Rattle.order_laws.proofs.TableLemmas.{length_without}
use Rattle.facts.proofs.Tests.{length-filter_le}
use Rattle.std.proofs.lemmas.Bool.Decides.{nat_tests}

-- a part of a table is one, and no longer
pub filtered_table : {K : Type 0} (o : Order K) (test : Item → Bool) (xs : List Item) → IsTable o xs
    → IsTable o (filter test xs)
filtered_table o test [] t = tt
filtered_table o test (x ∷ xs) t =
    grind (arith, nat_tests, filtered_table o test xs t.2, all_filtered)

pub without_all_table : {K : Type 0} (o : Order K) (gone : List ℕ) (xs : List Item) → IsTable o xs
    → IsTable o (without_all gone xs)
without_all_table o gone xs t = filtered_table o (λ x. not (list_any (λ a. a == x.a) gone)) xs t

pub length_without_all : (gone : List ℕ) (xs : List Item) → length (without_all gone xs) ≤ length xs
length_without_all gone xs = length-filter_le (λ x. not (list_any (λ a. a == x.a) gone)) xs

-- as many first words as there are items at most
pub length_without_one : (a : ℕ) (xs : List Item) → has a xs ≡ true
    → length (without a xs) + 1 ≤ length xs
length_without_one a [] h = absurd (cc)
length_without_one a (x ∷ xs) h =
    elim (x.a == a) as (λ e. (e || has a xs) ≡ true
    → length (cond (not e) (x ∷ without a xs) (without a xs)) + 1 ≤ length (x ∷ xs)) [
      | true ↦ λ f. omega (arith, length_without a xs)
      | false ↦ λ f. omega (arith, length_without_one a xs f)
    ] h

-- without one first word more
pub without_more : (gone : List ℕ) (a : ℕ) (xs : List Item)
    → without_all (gone ++ a ∷ []) xs ≡ without a (without_all gone xs)
without_more gone a [] = refl
without_more gone a (x ∷ xs) =
    ap (λ b. cond (not b) (x ∷ without_all (gone ++ a ∷ []) xs) (without_all (gone ++ a ∷ []) xs))
    (any_more gone x.a)
    ∙ (elim (list_any (λ b. b == x.a) gone) as (λ g. cond (not (g || (x.a == a)))
    (x ∷ without_all (gone ++ a ∷ []) xs) (without_all (gone ++ a ∷ []) xs)
    ≡ without a (cond (not g) (x ∷ without_all gone xs) (without_all gone xs))) [
      | true ↦ without_more gone a xs
      | false ↦
          elim (x.a == a) as (λ e. cond (not e) (x ∷ without_all (gone ++ a ∷ []) xs)
          (without_all (gone ++ a ∷ []) xs) ≡ cond (not e) (x ∷ without a (without_all gone xs))
          (without a (without_all gone xs))) [
            | true ↦ without_more gone a xs
            | false ↦ ap (λ ys. x ∷ ys) (without_more gone a xs)
          ]
    ])
  where
    flipped : (c w : ℕ) → ((c == w) || false) ≡ (w == c)
    flipped c w =
        ⊎_elim
        (λ same. ap (λ b. b || false) (eq-eqb c w same) ∙ sym (eq-eqb w c (sym same)))
        (λ differ. ap (λ b. b || false) (ne_eqb c w differ)
        ∙ sym (ne_eqb w c (λ e. differ (sym e))))
        (cases_eq c w)

    any_more : (gone : List ℕ) (w : ℕ)
        → list_any (λ b. b == w) (gone ++ a ∷ []) ≡ (list_any (λ b. b == w) gone || (w == a))
    any_more [] w = flipped a w
    any_more (b ∷ rest) w = grind (arith, nat_tests, any_more rest w)

-- a table without a first word has the other ones still
pub has_without : (a b : ℕ) (xs : List Item) → b ≢ a → has b xs ≡ true → has b (without a xs) ≡ true
has_without a b [] ne h = absurd (cc)
has_without a b (x ∷ xs) ne h =
    elim (x.a == a) as (λ e. (x.a == a) ≡ e
    → has b (cond (not e) (x ∷ without a xs) (without a xs)) ≡ true) [
      | true ↦ λ is.
          let other : (x.a == b) ≡ false = ne_eqb x.a b (λ f. ne (sym f ∙ eqb-true x.a a is)) in
          has_without a b xs ne (ap (λ c. c || has b xs) (sym other) ∙ h)
      | false ↦ λ is.
          elim (x.a == b) as (λ e. (e || has b xs) ≡ true → (e || has b (without a xs)) ≡ true) [
            | true ↦ λ f. refl
            | false ↦ λ f. has_without a b xs ne f
          ] h
    ] refl

pub all_has_without : (a : ℕ) (rest : List ℕ) (xs : List Item) → list_any (λ b. b == a) rest ≡ false
    → AllByRecursion (λ b. has b xs ≡ true) rest
    → AllByRecursion (λ b. has b (without a xs) ≡ true) rest
all_has_without a [] xs d h = tt
all_has_without a (b ∷ rest) xs d h =
    let both = or_parts (b == a) (list_any (λ c. c == a) rest) d in (
      has_without a b xs (λ e. absurd (let f : true ≡ false = sym (eq-eqb b a e) ∙ both.0 in cc))
          h.0,
      all_has_without a rest xs both.1 h.1,
    )

pub has_either : (a : ℕ) (is js : List Item) → has a (is ++ js) ≡ (has a is || has a js)
has_either a [] js = refl
has_either a (z ∷ is) js = grind (arith, nat_tests, has_either a is js)
