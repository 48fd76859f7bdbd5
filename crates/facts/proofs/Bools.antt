-- Facts about truth values alone.
use Rattle.facts.proofs.Words.{◌&&◌, ◌+◌, ◌||◌, ◌∙◌, ◌≡◌, Bool, arith, cond, false, not, refl, sym}
use Rattle.facts.proofs.Words.{true, ℕ, or-true, or_left}

pub or_assoc : (a b c : Bool) → (a || (b || c)) ≡ ((a || b) || c)
or_assoc a b c = elim a as (λ v. (v || (b || c)) ≡ ((v || b) || c)) [ true ↦ refl | false ↦ refl ]

pub or_swap : (a b c : Bool) → (a || (b || c)) ≡ (b || (a || c))
or_swap a b c =
    elim a as (λ v. (v || (b || c)) ≡ (b || (v || c))) [ true ↦ sym (or-true b) | false ↦ refl ]

-- the left one holds where the right one fails
pub left_of_or : (a b : Bool) → (a || b) ≡ true → b ≡ false → a ≡ true
left_of_or true b h k = refl
left_of_or false b h k = absurd (cc)

pub and_rotate : (x y z : Bool) → (z && (x && y)) ≡ (x && (y && z))
and_rotate true true true = refl
and_rotate true true false = refl
and_rotate true false true = refl
and_rotate true false false = refl
and_rotate false true true = refl
and_rotate false true false = refl
and_rotate false false true = refl
and_rotate false false false = refl

pub and-false_if : (a b : Bool) → (b ≡ true → a ≡ false) → (a && b) ≡ false
and-false_if a true h = rw (h refl) refl
and-false_if true false h = refl
and-false_if false false h = refl

-- a test that follows from the two beside it may be left out
pub and-needless_second : (a b c x y : Bool) → (a ≡ true → c ≡ true → b ≡ true) → (a ≡ true → x ≡ y)
    → ((a && b) && (c && x)) ≡ (a && (c && y))
and-needless_second true b true x y hb hx = let is : b ≡ true = hb refl refl in rw is (hx refl)
and-needless_second true true false x y hb hx = refl
and-needless_second true false false x y hb hx = refl
and-needless_second false b c x y hb hx = refl

pub and-needless_first : (a b c x y : Bool) → (c ≡ true → a ≡ true) → (b ≡ true → x ≡ y)
    → ((a && b) && (c && x)) ≡ (b && (c && y))
and-needless_first a true true x y ha hx = let is : a ≡ true = ha refl in rw is (hx refl)
and-needless_first true true false x y ha hx = refl
and-needless_first false true false x y ha hx = refl
and-needless_first true false c x y ha hx = refl
and-needless_first false false c x y ha hx = refl

pub false_by_contrary : (v w : Bool) → (v ≡ true → w ≡ false) → w ≡ true → v ≡ false
false_by_contrary true w f e = let g : w ≡ false = f refl in absurd (cc)
false_by_contrary false w f e = refl

pub same_by_false : (a b : Bool) → (a ≡ false → b ≡ false) → (b ≡ false → a ≡ false) → a ≡ b
same_by_false false b f h = sym (f refl)
same_by_false true true f h = refl
same_by_false true false f h = h refl

-- ---- what `||` and `&&` give where the first is known

pub or-second : (a b : Bool) → a ≡ false → (a || b) ≡ b
or-second a b h = rw h refl

pub and-second : (a b : Bool) → a ≡ true → (a && b) ≡ b
and-second a b h = rw h refl

pub or_by_first : (r a b : Bool) → r ≡ a → r ≡ true → r ≡ (a || b)
or_by_first r a b is holds = holds ∙ sym (or_left a b (sym is ∙ holds))

pub or_by_second : (s r a b : Bool) → s ≡ a → s ≡ false → r ≡ b → r ≡ (a || b)
or_by_second s r a b is fails second = second ∙ sym (or-second a b (sym is ∙ fails))

pub and_by_second : (s r a b : Bool) → s ≡ a → s ≡ true → r ≡ b → r ≡ (a && b)
and_by_second s r a b is holds second = second ∙ sym (and-second a b (sym is ∙ holds))

-- ---- a test counted as 1 or 0

pub count_either : (b : Bool) → cond {A = ℕ} b 1 0 + cond (not b) 1 0 ≡ 1
count_either true = refl
count_either false = refl

-- one of two tests, and as many as the second counts where the first fails
pub count-or : (a b : Bool) (n : ℕ) → n ≡ cond b 1 0 → (a ≡ true → n ≡ 0)
    → cond a 1 0 + n ≡ cond (a || b) 1 0
count-or true b n rest none = let zero_is : n ≡ 0 = none refl in omega arith
count-or false b n rest none = omega (arith, rest)

-- of two tests that do not both pass
pub count-or_apart : (a b : Bool) → (a ≡ true → b ≡ false)
    → cond a 1 0 + cond b 1 0 ≡ cond (a || b) 1 0
count-or_apart true true h = let k : true ≡ false = h refl in absurd (cc)
count-or_apart true false h = refl
count-or_apart false true h = refl
count-or_apart false false h = refl

pub count-and_false : (b : Bool) → cond {A = ℕ} (b && false) 1 0 ≡ 0
count-and_false true = refl
count-and_false false = refl
