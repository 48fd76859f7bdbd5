-- Facts about numbers and tests on them alone.
use Rattle.facts.proofs.Words.{◌&&◌, ◌+◌, ◌<◌, ◌||◌, ◌≡◌, ◌≤◌, arith, false, if◌then◌else◌}
use Rattle.facts.proofs.Words.{inl, inr, min, nat_le, not, subst, suc, sym, true, ℕ, ⊎_elim, max}
use Rattle.facts.proofs.Words.{is_lt, nat_cmp, ordering_then, min-eq_left, min-eq_right}
use Rattle.facts.proofs.Words.{min-le_left, min-le_right, cases_Bool, cases_eq, cases_lt, eq-eqb}
use Rattle.facts.proofs.Words.{eqb-true, le-ltb, ltb-false, ne_eqb, leb_tells, nat_tests}
use Rattle.std.proofs.Common.{◌⊎◌, nat_eq, nat_lt}
use Rattle.std.specs.Prelude.{◌==◌}
use Rattle.std.proofs.Math.Dec.{leb}

pub eqb-flip : (a b : ℕ) → (a == b) ≡ (b == a)
eqb-flip a b = grind (arith, nat_tests, eq-eqb, ne_eqb, cases_eq)

-- what the last number and each below it have, each number has
pub below_suc : (P : ℕ → Type 0) (k : ℕ) → P k → ((i : ℕ) → i < k → P i) → (i : ℕ) → i < suc k →
    P i
below_suc P k last before i lt =
    ⊎_elim (λ e. subst P (sym e) last) (λ ne. before i (omega (arith, lt, ne))) (cases_eq i k)

pub if_suc : (k a b : ℕ) → (if suc k == 0 then a else b) ≡ b
if_suc k a b = grind (arith, nat_tests)

pub suc-max_left : (w n a b : ℕ) → w ≤ suc n + a → w ≤ n + suc (max a b)
suc-max_left w n a b h = omega arith

pub suc-max_right : (w n a b : ℕ) → w ≤ suc n + b → w ≤ n + suc (max a b)
suc-max_right w n a b h = omega arith

-- below the lesser of two numbers, and not below it
pub below_min : (a b m n : ℕ) → m ≡ min a b → n < m → (n < a) × (n < b)
below_min a b m n is below =
    (omega (arith, is, below, min-le_left a b), omega (arith, is, below, min-le_right a b))

pub past_min : (a b m n : ℕ) → m ≡ min a b → m ≤ n → (a ≤ n) ⊎ (b ≤ n)
past_min a b m n is above = by (leb_tells a b)
  where
    by : ((leb a b ≡ true) × (a ≤ b)) ⊎ ((leb a b ≡ false) × (b < a)) → (a ≤ n) ⊎ (b ≤ n)
    by (inl (t, less)) = let e = min-eq_left less in inl (omega (arith, e, is, above))
    by (inr (t, more)) = let less : b ≤ a = omega (arith, more) in
        let e = min-eq_right less in
        inr (omega (arith, e, is, above))

pub eqb-one_false : (n : ℕ) → (n ≡ 1 → ⊥) → nat_eq n 1 ≡ false
eqb-one_false n h =
    ⊎_elim (λ one. absurd (h (eqb-true n 1 one))) (λ other. other) (cases_Bool (nat_eq n 1))

pub eqb-one_more : (n : ℕ) → not (nat_eq (suc (suc n)) 1) ≡ true
eqb-one_more n = grind (arith, nat_tests)

-- ---- a test that failed below a bound fails below a greater one

pub ltb-false_wider : (n n' a b : ℕ) → n ≤ n' → a ≡ b → nat_lt n a ≡ false → nat_lt n' b ≡ false
ltb-false_wider n n' a b more same e =
    le-ltb n' b (let f = ltb-false n a e in omega (arith, f, more, same))

pub eqb-false_wider : (n n' a : ℕ) → n ≤ n' → a ≤ n → (a == n) ≡ false → (a == n') ≡ false
eqb-false_wider n n' a more few e = grind (arith, nat_tests)

-- ---- `a` is at most `b`, or past `q`

pub le_or_past : (a b q : ℕ) → (a ≤ b) ⊎ (q < a) → (nat_le a b || nat_lt q a) ≡ true
le_or_past a b q h = ⊎_elim (λ le. grind (arith, nat_tests)) (λ lt. grind (arith, nat_tests)) h

pub le_or_past_cases : (t s q : ℕ) → (nat_le t s || nat_lt q t) ≡ true → (t ≤ s) ⊎ (q < t)
le_or_past_cases t s q h =
    ⊎_elim (λ over. inr over) (λ under. inl (grind (arith, nat_tests))) (cases_lt q t)

pub le_unless_past : (a b q : ℕ) → (nat_le a b || nat_lt q a) ≡ true → a ≤ q → a ≤ b
le_unless_past a b q h le = grind (arith, nat_tests)

pub le_or_past_below : (a q t : ℕ) → a ≤ q → (nat_le t a || nat_lt q t) ≡ true
    → nat_lt a t ≡ nat_lt q t
le_or_past_below a q t le h = grind (arith, nat_tests)

-- ---- `b` is at most `q`, or not below `a`

pub least_above : (a b q : ℕ) → (b ≤ q) ⊎ (a ≤ b) → (nat_le b q || nat_le a b) ≡ true
least_above a b q h = ⊎_elim (λ le. grind (arith, nat_tests)) (λ le. grind (arith, nat_tests)) h

pub least_above_cases : (u t s : ℕ) → (nat_le u s || nat_le t u) ≡ true → (u ≤ s) ⊎ (t ≤ u)
least_above_cases u t s h =
    ⊎_elim (λ over. inr (grind (arith, nat_tests))) (λ under. inl under) (cases_lt s u)

pub least_above_past : (a b q : ℕ) → (nat_le b q || nat_le a b) ≡ true → q < b → a ≤ b
least_above_past a b q h lt = grind (arith, nat_tests)

pub least_above_below : (a q t u : ℕ) → a ≤ q → (nat_le u a || nat_lt q u) ≡ true
    → (nat_le u a || nat_le t u) ≡ (nat_le u q || nat_le t u)
least_above_below a q t u le h = grind (arith, nat_tests)

-- ---- where a test of a range says no more

pub le_or_past_within : (t s addr start end : ℕ) → start ≤ s → addr < end
    → (not (nat_le start t && nat_lt t end) || (nat_le t s || nat_lt addr t))
    ≡ (nat_le t s || nat_lt addr t)
le_or_past_within t s addr start end from below = grind (arith, nat_tests)

pub least_above_within : (t s addr start end : ℕ) → start ≤ addr → s < end
    → (not (nat_le start t && nat_lt t end) || (nat_le t addr || nat_le s t))
    ≡ (nat_le t addr || nat_le s t)
least_above_within t s addr start end from below = grind (arith, nat_tests)

-- ---- pairs in order by the first number and then, turned round, by the second

pub pairs_one_way : (a p b q : ℕ) → (nat_lt a b || (nat_eq a b && nat_lt q p)) ≡ true
    → (nat_lt b a || (nat_eq b a && nat_lt p q)) ≡ false
pairs_one_way a p b q h = grind (arith, nat_tests)

pub pairs_chain : (a p b q c r : ℕ) → (nat_lt a b || (nat_eq a b && nat_lt q p)) ≡ false
    → (nat_lt b c || (nat_eq b c && nat_lt r q)) ≡ false
    → (nat_lt a c || (nat_eq a c && nat_lt r p)) ≡ false
pairs_chain a p b q c r h k = grind (arith, nat_tests)

-- the same as a comparison of both parts
pub is_lt-then : (a p b q : ℕ)
    → is_lt (ordering_then (nat_cmp a b) (nat_cmp q p)) ≡ (nat_lt a b || (nat_eq a b && nat_lt q p))
is_lt-then a p b q = grind (arith, nat_tests)

-- a pair that does not come first
pub pairs_not_before : (a p b q : ℕ) → (nat_lt b a || (nat_eq b a && nat_lt p q)) ≡ false
    → (a ≤ b) × (a ≡ b → q ≤ p)
pairs_not_before a p b q h = (grind (arith, nat_tests), λ e. grind (arith, nat_tests))
