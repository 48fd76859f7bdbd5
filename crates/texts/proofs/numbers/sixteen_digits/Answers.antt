use Rattle.texts.proofs.Words.{◌≡◌, ◌<◌, ◌+◌, ◌*◌, ◌^◌, true, Some, ap, sym, ◌∙◌, arith, length}
use Rattle.texts.proofs.Words.{is_digit, digits_value, half_fits, list_all, numeral}
use Rattle.texts.proofs.NumberLemmas.{both_digits, is_sixteen}
use Rattle.texts.proofs.numbers.sixteen_digits.Goals as goal
use Rattle.texts.proofs.numbers.sixteen_digits.Goals.{After-max}

-- both halves are digits
are_digits : (c : After-max) → c.max.result < 16
    → (list_all (λ b. is_digit b 16) c.split_at.result.0.now ≡ true)
    × (list_all (λ b. is_digit b 16) c.split_at.result.1.now ≡ true)
are_digits c small =
    both_digits c.split_at.result.0.now c.split_at.result.1.now _ _ _
    c.upper_digits-high.ensures.digits c.eight_digits-low.ensures.digits c.max.ensures small

-- what each of them writes fits 32 bits
fit : (c : After-max) → c.max.result < 16
    → (c.upper_digits-high.result.0 < 2 ^ 32) × (c.eight_digits-low.result.0 < 2 ^ 32)
fit c small =
    let all = are_digits c small in
    let long : length c.split_at.result.1.now ≡ 8 =
    omega (arith, c.split_at.ensures.back_len, c.requires) in
    let high = half_fits c.split_at.result.0.now c.split_at.ensures.front_len all.0 in
    let low = half_fits c.split_at.result.1.now long all.1 in (
      omega (arith, high, c.upper_digits-high.ensures.value),
      omega (arith, low, c.eight_digits-low.ensures.value),
    )

pub overflow_mul-result : goal.overflow_mul-result
overflow_mul-result c =
    omega (arith, (fit (goal.at.overflow_mul-result c).After-max (omega arith)).0)

pub overflow_add-result : goal.overflow_add-result
overflow_add-result c =
    let both = fit (goal.at.overflow_add-result c).After-max (omega arith) in
    omega (arith, both.0, both.1)

pub returns : goal.returns
returns c =
    let high = c.split_at.result.0.now in
    let low = c.split_at.result.1.now in
    let all = are_digits (goal.at.returns c).After-max (omega arith) in
    let value : c.upper_digits-high.result.0 * 4294967296 + c.eight_digits-low.result.0
    ≡ digits_value 16 high * 4294967296 + digits_value 16 low =
    omega (arith, c.upper_digits-high.ensures.value, c.eight_digits-low.ensures.value) in
    ap Some value
    ∙ sym (is_sixteen high low c.split_at.ensures.front_len
    (omega (arith, c.split_at.ensures.back_len, c.requires)) all.0 all.1)
    ∙ ap (numeral 16 16) (sym c.split_at.ensures.by_index.0)
