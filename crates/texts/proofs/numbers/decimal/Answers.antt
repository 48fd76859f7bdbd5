use Rattle.texts.proofs.Words.{rules, ◌≤◌, ◌+◌, ◌*◌, ◌^◌, ap, sym, ◌∙◌, Some, arith, get_or}
use Rattle.texts.proofs.Words.{digit_value, is_digit, digits_value_after-end, list_all-end}
use Rattle.texts.proofs.NumberLemmas.{overflows, is_value}
use Rattle.texts.proofs.numbers.decimal.Goals as goal

pub returns-in_err-checked_mul : goal.returns-in_err-checked_mul
returns-in_err-checked_mul c =
    let big : 2 ^ 64
    ≤ c.loop-byte.value * 10 + digit_value (get_or c.args.text.now c.loop-byte.byte-index 0) =
    grind (arith, c.in_err-checked_mul.ensures) in
    c.from_residual.ensures ∙ sym (overflows 10 20 c.loop-byte.value c.loop-byte.byte-index
    c.args.text.now (omega arith) c.loop-byte-test.true c.loop-byte.invariant.value big)

pub returns-in_err-value : goal.returns-in_err-value
returns-in_err-value c =
    let big : 2 ^ 64
    ≤ c.loop-byte.value * 10 + digit_value (get_or c.args.text.now c.loop-byte.byte-index 0) =
    grind (arith, c.in_err-value.ensures, c.in_ok-checked_mul.ensures, c.digit_of-digit.ensures) in
    c.from_residual-in_err-value.ensures
    ∙ sym (overflows 10 20 c.loop-byte.value c.loop-byte.byte-index c.args.text.now
    (omega arith) c.loop-byte-test.true c.loop-byte.invariant.value big)

pub returns : goal.returns
returns c =
    let e = digits_value_after-end 10 c.loop-byte.value c.loop-byte.byte-index c.args.text.now
    c.loop-byte-test.false c.loop-byte.invariant.value in
    let all = list_all-end (λ b. is_digit b 10) c.loop-byte.byte-index c.args.text.now
    c.loop-byte-test.false c.loop-byte.invariant.tested in
    ap Some e ∙ sym (is_value 10 20 c.args.text.now (search rules) c.if-text-gt-DECIMAL_DIGITS.false
    all (omega (arith, e, c.loop-byte.invariant.fits)))
